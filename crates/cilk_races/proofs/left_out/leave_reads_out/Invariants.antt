use Rattle.std.proofs.Common.{◌≡◌, ◌≤◌, length}
use Rattle.cilk_races.specs.Links.{AreLeftOut, AreRead}
use Rattle.cilk_races.specs.Paired.{touches_of}
use Rattle.cilk_races.proofs.left_out.leave_reads_out.Given as goal

abbrev pub invariant-loop-place : goal.invariant-loop-place
invariant-loop-place l = record {
  within : l.place ≤ length l.touches;
  written : length l.written ≡ length l.touches;
  size : length l.marks ≡ length l.touches;
  read : AreRead (length l.touches) (touches_of l.rows l.touches) l.place l.written;
  left : AreLeftOut (length l.touches) (touches_of l.rows l.touches) l.marks;
}

abbrev pub decreases-loop-place : goal.decreases-loop-place
decreases-loop-place l = l.place
