use Rattle.std.proofs.Common.{◌≡◌}
use Rattle.cilk_run.specs.labelled.Bodies.{label}
use Rattle.cilk_run.specs.Tallied.{outcomes_from, tally}
use Rattle.cilk_run.specs.Tallying.{rows_by}
use Rattle.cilk_run.proofs.tallying.tally_each.Given as goal

abbrev pub invariant-loop-made : goal.invariant-loop-made
invariant-loop-made l = rows_by l.rows.items ≡ tally l.seed (outcomes_from (label l.program) l.workers l.limit l.seed l.made)
