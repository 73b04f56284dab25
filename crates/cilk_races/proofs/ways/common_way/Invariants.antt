use Rattle.std.proofs.Common.{◌≡◌}
use Rattle.cilk_races.specs.Related.{common}
use Rattle.cilk_races.specs.Ways.{path_up}
use Rattle.cilk_races.proofs.Upwards.{shared_by}
use Rattle.cilk_races.proofs.ways.common_way.Given as goal

abbrev pub invariant-loop-left : goal.invariant-loop-left
invariant-loop-left l =
    shared_by (path_up l.rows l.left l.first) (path_up l.rows l.left l.second) l.shared ≡ common (path_up l.rows l.depth l.one) (path_up l.rows l.depth l.other)

abbrev pub decreases-loop-left : goal.decreases-loop-left
decreases-loop-left l = l.left
