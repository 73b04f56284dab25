use Rattle.std.proofs.Common.{◌≡◌, drop}
use Rattle.cilk_machine_agree.specs.model.Hands.{deque_of}
use Rattle.cilk_view.specs.Finding.{frame_among}
use Rattle.cilk_view.proofs.finding.frame_queued.Given as goal

abbrev pub invariant-loop-i : goal.invariant-loop-i
invariant-loop-i l = frame_among l.id (drop l.i (deque_of l.hands l.worker)) ≡ frame_among l.id (deque_of l.hands l.worker)
