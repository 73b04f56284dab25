use Rattle.std.proofs.Common.{◌≡◌, ◌≤◌, ℕ, List, length}
use Rattle.cilk_races.specs.Line.{Line}
use Rattle.cilk_races.specs.Links.{AreLinked, ArePast}
use Rattle.cilk_races.specs.Paired.{touches_of}
use Rattle.cilk_races.proofs.streaks.lead_past.Given as goal

abbrev pub invariant-loop-place : goal.invariant-loop-place
invariant-loop-place l = record {
  within : l.place ≤ length l.touches;
  size : length l.past ≡ length l.touches;
  past : (rows : List Line) (first : List ℕ) → AreLinked (length l.touches) (touches_of rows l.touches) 0 first l.next
      → ArePast l.streak (length l.touches) (touches_of rows l.touches) l.place l.past;
}

abbrev pub decreases-loop-place : goal.decreases-loop-place
decreases-loop-place l = l.place
