use Rattle.std.proofs.Common.{◌≡◌, take}
use Rattle.cilk_sched.proofs.worker_image.deque_image.Given as goal

abbrev pub invariant-loop-i : goal.invariant-loop-i
invariant-loop-i l = l.image.items ≡ take l.i l.deque.items
