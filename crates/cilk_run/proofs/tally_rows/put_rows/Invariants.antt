use Rattle.std.proofs.Common.{◌≡◌, ◌++◌, take}
use Rattle.cilk_run.specs.Tallied.{tally_text}
use Rattle.cilk_run.specs.Tallying.{rows_by}
use Rattle.cilk_run.proofs.tally_rows.put_rows.Given as goal

abbrev pub invariant-loop-row : goal.invariant-loop-row
invariant-loop-row l = l.out.items ≡ l.initial.out.items ++ tally_text (rows_by (take l.row-index l.rows))
