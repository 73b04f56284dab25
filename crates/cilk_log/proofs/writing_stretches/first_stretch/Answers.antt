use Rattle.std.proofs.lemmas.List.Sums.{prefix_len-le-length}
use Rattle.cilk_log.proofs.Fronts.{first_of}
use Rattle.cilk_log.proofs.writing_stretches.first_stretch.Goals as goal

pub split_at-requires : goal.split_at-requires
split_at-requires c = rw c.joined_in_front-joined.ensures (prefix_len-le-length _ c.in-Some.behind.now)

pub returns-in-Some-clause-first : goal.returns-in-Some-clause-first
returns-in-Some-clause-first c =
    first_of c.args.choices.now c.in-Some.first.now c.in-Some.behind.now c.split_at.result.1.now c.joined_in_front-joined.result
    c.in-Some.ensures.cases.0 c.joined_in_front-joined.ensures c.split_at.ensures.back
