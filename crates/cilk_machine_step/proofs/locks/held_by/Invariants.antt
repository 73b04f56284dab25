use Rattle.std.proofs.Common.{◌≡◌, ◌++◌, drop}
use Rattle.cilk_machine_step.specs.Shown.{held_from}
use Rattle.cilk_machine_step.proofs.locks.held_by.Given as goal

abbrev pub invariant-loop-n : goal.invariant-loop-n
invariant-loop-n l = l.held.items ++ held_from l.n l.id (drop l.n l.locks) ≡ held_from 0 l.id l.locks
