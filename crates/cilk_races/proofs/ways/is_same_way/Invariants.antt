use Rattle.std.proofs.Common.{◌≡◌}
use Rattle.cilk_log_replay.specs.machine.model.Path.{same_path}
use Rattle.cilk_races.specs.Ways.{path_up}
use Rattle.cilk_races.proofs.ways.is_same_way.Given as goal

abbrev pub invariant-loop-left : goal.invariant-loop-left
invariant-loop-left l =
    same_path (path_up l.rows l.left l.first) (path_up l.rows l.left l.second) ≡ same_path (path_up l.rows l.depth l.one) (path_up l.rows l.depth l.other)

abbrev pub decreases-loop-left : goal.decreases-loop-left
decreases-loop-left l = l.left
