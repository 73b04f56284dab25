use Rattle.std.proofs.Common.{◌≡◌, length, take}
use Rattle.std.specs.List.{All}
use Rattle.cilk_log_replay.specs.Tape.{Tape}
use Rattle.cilk_races.specs.Paired.{pairs_told}
use Rattle.cilk_races.specs.Found.{HoldsRun}
use Rattle.cilk_races.specs.Met.{AreWithin, meetings_in}
use Rattle.cilk_races.specs.RacesText.{pairs_in}
use Rattle.cilk_races.specs.Reversals.{IsMeetingOf}
use Rattle.cilk_races.proofs.reversing.meetings_of.Given as goal

abbrev pub invariant-loop-entry : goal.invariant-loop-entry
invariant-loop-entry l =
    (pairs_in (meetings_in l.races.rows l.races.touches.items l.meetings.items)
    ≡ pairs_told l.races.rows l.races.touches.items (take l.entry-index l.races.entries.items))
    × All (AreWithin (length l.races.touches.items)) l.meetings.items
    × ((t : Tape) → HoldsRun t l.races → All (IsMeetingOf t) (meetings_in l.races.rows l.races.touches.items l.meetings.items))
