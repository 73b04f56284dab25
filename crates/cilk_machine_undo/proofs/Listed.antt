-- A list of those numbers that pass a test grows by the next one.
use Rattle.std.proofs.Common.{◌≡◌, ◌+◌, ◌++◌, ◌∷◌, [], ℕ, suc, List, Bool, cond, sym, ap, ◌∙◌, arith}
use Rattle.std.specs.List.{filter, range_with_len}
use Rattle.cilk_machine_plan.proofs.spawn_laws.Lists.{those, those_more}

pub one-more : (p : ℕ → Bool) (n : ℕ) (b : Bool) (xs now : List ℕ) → xs ≡ those p n → b ≡ p n → now ≡ xs ++ cond b (n ∷ []) []
    → now ≡ filter p (range_with_len 0 (n + 1))
one-more p n b xs now before tests is =
    let next : suc n ≡ n + 1 = omega arith in
    is ∙ (λ j. before j ++ cond (tests j) (n ∷ []) []) ∙ sym (those_more p n) ∙ ap (λ k. filter p (range_with_len 0 k)) next
