use Rattle.std.proofs.Common.{◌≡◌, length, take}
use Rattle.cilk_run.specs.Tallied.{bumped}
use Rattle.cilk_run.specs.Tallying.{has_row, outcome_by, rows_by}
use Rattle.cilk_run.proofs.Steps.{partly}
use Rattle.cilk_run.proofs.tallying.count_same.Given as goal

abbrev pub invariant-loop-i : goal.invariant-loop-i
invariant-loop-i l =
    (rows_by l.rows ≡ partly (bumped (outcome_by l.outcome)) (rows_by l.initial.rows) l.i) × (length l.rows ≡ length l.initial.rows)
    × (l.is_found ≡ has_row (outcome_by l.outcome) (take l.i (rows_by l.initial.rows)))
