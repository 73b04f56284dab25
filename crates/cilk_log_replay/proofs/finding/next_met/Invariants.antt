use Rattle.std.proofs.Common.{◌≡◌, ◌-◌, length}
use Rattle.std.specs.List.{find, range_with_len}
use Rattle.cilk_log_replay.specs.Tracks.{meets}
use Rattle.cilk_log_replay.proofs.finding.next_met.Given as goal

abbrev pub invariant-loop-made : goal.invariant-loop-made
invariant-loop-made l =
    find (meets l.actions l.marks) (range_with_len l.from (length l.actions - l.from))
    ≡ find (meets l.actions l.marks) (range_with_len l.made (length l.actions - l.made))
