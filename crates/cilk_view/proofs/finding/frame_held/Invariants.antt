use Rattle.std.proofs.Common.{◌≡◌, drop}
use Rattle.cilk_view.specs.Finding.{frame_held}
use Rattle.cilk_view.proofs.finding.frame_held.Given as goal

abbrev pub invariant-loop-before : goal.invariant-loop-before
invariant-loop-before l = frame_held l.id (drop l.before l.hands) ≡ frame_held l.id l.hands
