use Rattle.std.proofs.Common.{◌≡◌, ◌++◌, drop, string_bytes}
use Rattle.std.specs.Prelude.{flat_map}
use Rattle.cilk_log_replay.specs.machine.labelled.Bodies.{label}
use Rattle.cilk_races.specs.Met.{meetings_in}
use Rattle.cilk_races.specs.RacesText.{meeting_text}
use Rattle.cilk_races.proofs.telling.put_meetings.Given as goal

abbrev pub invariant-loop-meeting : goal.invariant-loop-meeting
invariant-loop-meeting l =
    string_bytes l.out
    ++ flat_map (meeting_text (label l.races.machine.program)) (meetings_in l.races.rows l.races.touches.items (drop l.meeting-index l.meetings))
    ≡ string_bytes l.initial.out
    ++ flat_map (meeting_text (label l.races.machine.program)) (meetings_in l.races.rows l.races.touches.items l.meetings)
