use Rattle.std.proofs.Common.{◌≡◌, List, length}
use Rattle.cilk_races.specs.Line.{Line}
use Rattle.cilk_races.specs.Links.{AreTwins}
use Rattle.cilk_races.specs.Paired.{touches_of}
use Rattle.cilk_races.proofs.twins.mark_twins.Given as goal

abbrev pub invariant-loop-place : goal.invariant-loop-place
invariant-loop-place l = record {
  size : length l.twins ≡ length l.touches;
  heads : length l.heads ≡ length l.touches;
  earlier : length l.earlier ≡ length l.touches;
  twins : (rows : List Line) → AreTwins (touches_of rows l.touches) l.twins;
}
