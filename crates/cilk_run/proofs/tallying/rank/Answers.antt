use Rattle.std.proofs.Common.{rules}
use Rattle.std.proofs.lemmas.List.Sorted.{answers_always}
use Rattle.cilk_run.proofs.Ranks.{has_more, has_more-is_order, sorted-twice}
use Rattle.cilk_run.proofs.tallying.rank.Goals as goal

pub returns : goal.returns
returns c =
    sorted-twice _ _ _ c.in_ok-sort_by_key.ensures.permutation c.in_ok-sort_by.ensures.permutation
    (c.in_ok-sort_by_key.ensures.sorted (λ r. r.first) (answers_always _ _ _ (λ f a r g h. search rules)))
    (c.in_ok-sort_by.ensures.sorted has_more has_more-is_order (answers_always _ _ _ (λ f a r g h. search rules)))
    (c.in_ok-sort_by.ensures.stable has_more has_more-is_order (answers_always _ _ _ (λ f a r g h. search rules)))
