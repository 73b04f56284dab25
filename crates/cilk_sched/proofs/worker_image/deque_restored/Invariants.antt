use Rattle.std.proofs.Common.{◌≡◌, take}
use Rattle.cilk_sched.proofs.worker_image.deque_restored.Given as goal

abbrev pub invariant-loop-frame : goal.invariant-loop-frame
invariant-loop-frame l = l.deque.items ≡ take l.frame-index l.image
