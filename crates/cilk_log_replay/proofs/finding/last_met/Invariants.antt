use Rattle.std.proofs.Common.{◌≡◌, ◌≤◌}
use Rattle.std.specs.List.{find}
use Rattle.cilk_log_replay.specs.Breaks.{down_from}
use Rattle.cilk_log_replay.specs.Tracks.{meets}
use Rattle.cilk_log_replay.proofs.finding.last_met.Given as goal

abbrev pub invariant-loop-left : goal.invariant-loop-left
invariant-loop-left l =
    (l.left ≤ l.count) × (find (meets l.actions l.marks) (down_from l.count) ≡ find (meets l.actions l.marks) (down_from l.left))

abbrev pub decreases-loop-left : goal.decreases-loop-left
decreases-loop-left l = l.left
