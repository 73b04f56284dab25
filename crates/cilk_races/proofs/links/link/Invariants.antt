use Rattle.std.proofs.Common.{◌≤◌, length}
use Rattle.cilk_races.specs.Links.{AreLinked}
use Rattle.cilk_races.specs.Paired.{touches_of}
use Rattle.cilk_races.proofs.links.link.Given as goal

abbrev pub invariant-loop-place : goal.invariant-loop-place
invariant-loop-place l = (l.place ≤ length l.touches) × AreLinked (length l.touches) (touches_of l.rows l.touches) l.place l.first l.next

abbrev pub decreases-loop-place : goal.decreases-loop-place
decreases-loop-place l = l.place
