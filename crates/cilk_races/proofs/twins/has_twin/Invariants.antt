use Rattle.std.proofs.Common.{◌≤◌}
use Rattle.cilk_races.proofs.twins.has_twin.Given as goal

abbrev pub invariant-loop-left : goal.invariant-loop-left
invariant-loop-left l = l.left ≤ l.place

abbrev pub decreases-loop-left : goal.decreases-loop-left
decreases-loop-left l = l.left
