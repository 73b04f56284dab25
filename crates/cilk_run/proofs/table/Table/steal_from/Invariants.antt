use Rattle.std.proofs.Common.{◌≡◌}
use Rattle.cilk_run.proofs.table.Table.steal_from.Given as goal

abbrev pub invariant-loop-before : goal.invariant-loop-before
invariant-loop-before g l = l.self ≡ l.fn.self
