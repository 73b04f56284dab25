use Rattle.std.proofs.Common.{◌≡◌, take}
use Rattle.cilk_sched.proofs.hands.Hands.restore.Given as goal

abbrev pub invariant-loop-place : goal.invariant-loop-place
invariant-loop-place l = l.made.items ≡ take l.place-index l.place-items
