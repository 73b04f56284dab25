use Rattle.std.proofs.Common.{◌≡◌}
use Rattle.cilk_races.specs.Ways.{above}
use Rattle.cilk_races.proofs.ways.above.Given as goal

abbrev pub invariant-loop-left : goal.invariant-loop-left
invariant-loop-left l = above l.rows l.left l.at ≡ above l.rows l.levels l.place

abbrev pub decreases-loop-left : goal.decreases-loop-left
decreases-loop-left l = l.left
