use Rattle.std.proofs.Common.{◌≡◌, length}
use Rattle.cilk_explore.specs.Marking.{AreSound, unmarked}
use Rattle.cilk_explore.proofs.marking.marks_of.Given as goal

abbrev pub invariant-loop-marks : goal.invariant-loop-marks
invariant-loop-marks l = record {
  size : length l.marks.items ≡ length l.links.past;
  sound : AreSound l.links.past l.marks.items;
}

abbrev pub decreases-loop-marks : goal.decreases-loop-marks
decreases-loop-marks l = unmarked l.marks.items
