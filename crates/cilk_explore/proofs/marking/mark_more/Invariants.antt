use Rattle.std.proofs.Common.{◌≡◌, ◌<◌, ◌≤◌, true, false, length}
use Rattle.cilk_explore.specs.Marking.{AreSound, AreWholeFrom, unmarked}
use Rattle.cilk_explore.proofs.marking.mark_more.Given as goal

abbrev pub invariant-loop-left : goal.invariant-loop-left
invariant-loop-left l = record {
  within : l.left ≤ length l.marks;
  size : length l.marks ≡ length l.links.past;
  sound : AreSound l.links.past l.marks;
  most : unmarked l.marks ≤ unmarked l.initial.marks;
  fewer : l.more ≡ true → unmarked l.marks < unmarked l.initial.marks;
  whole : l.more ≡ false → AreWholeFrom l.left l.links.past l.marks;
}

abbrev pub decreases-loop-left : goal.decreases-loop-left
decreases-loop-left l = l.left
