use Rattle.std.proofs.Common.{◌≡◌, ◌++◌, map, take, drop}
use Rattle.cilk_machine_plan.specs.agree.Laws.{released}
use Rattle.cilk_machine_carry.proofs.releasing.release.Given as goal

abbrev pub invariant-loop-lock : goal.invariant-loop-lock
invariant-loop-lock l = l.lock-items ≡ map (released l.id) (take l.lock-index l.fn.locks.items) ++ drop l.lock-index l.fn.locks.items
