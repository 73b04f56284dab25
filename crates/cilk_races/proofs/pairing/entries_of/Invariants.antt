use Rattle.std.proofs.Common.{◌≡◌, List, length, take}
use Rattle.std.specs.List.{All}
use Rattle.cilk_log_replay.specs.machine.model.labelled.Labelled.{Labelled}
use Rattle.cilk_log_replay.specs.machine.model.Event.{Event}
use Rattle.cilk_races.specs.Kept.{Blocked}
use Rattle.cilk_races.specs.Paired.{Within, pairs_told, touches_of}
use Rattle.cilk_races.specs.Races.{entries_of, pairs_of}
use Rattle.cilk_races.proofs.pairing.entries_of.Given as goal

abbrev pub invariant-loop-second : goal.invariant-loop-second
invariant-loop-second l = record {
  entries : (program : Labelled) (events : List Event) → Blocked program events l.rows
      → pairs_told l.rows l.touches l.entries.items ≡ entries_of (pairs_of program events (take l.second (touches_of l.rows l.touches)));
  within : All (Within (length l.touches)) l.entries.items;
}
