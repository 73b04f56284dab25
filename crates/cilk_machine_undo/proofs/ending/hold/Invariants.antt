use Rattle.std.proofs.Common.{◌≡◌, take}
use Rattle.cilk_machine_plan.specs.agree.declared.lock.Lock.TheVariants.{Held}
use Rattle.cilk_machine_undo.specs.Writes.{all_set}
use Rattle.cilk_machine_undo.proofs.ending.hold.Given as goal

abbrev pub invariant-loop-lock : goal.invariant-loop-lock
invariant-loop-lock l = l.locks.items ≡ all_set l.initial.locks.items (take l.lock-index l.held) (Held l.id)
