use Rattle.std.proofs.Common.{◌≡◌, ◌<◌, ◌-◌, List, length}
use Rattle.std.specs.Prelude.{min}
use Rattle.std.specs.List.{All}
use Rattle.cilk_log_replay.specs.machine.model.labelled.Labelled.{Labelled}
use Rattle.cilk_log_replay.specs.machine.model.Event.{Event}
use Rattle.cilk_races.specs.Links.{bucket_at}
use Rattle.cilk_races.specs.Kept.{Blocked}
use Rattle.cilk_races.specs.Paired.{Pairs, Within, entries_up_to, pairs_told, touch_at, touches_of}
use Rattle.cilk_races.specs.Races.{entries_of}
use Rattle.cilk_races.proofs.pairing.push_entries.Given as goal

abbrev pub invariant-loop-first : goal.invariant-loop-first
invariant-loop-first l = record {
  entries : (program : Labelled) (events : List Event) → Blocked program events l.rows → (pairs : Pairs)
      → pairs_told l.rows l.touches l.fn.entries.items ≡ entries_of pairs
      → pairs_told l.rows l.touches l.entries.items
      ≡ entries_up_to program events (touches_of l.rows l.touches) pairs (min l.first l.second) (touch_at (touches_of l.rows l.touches) l.second);
  within : All (Within (length l.touches)) l.entries.items;
  falls : l.first < length l.touches
      → bucket_at (length l.touches) (touches_of l.rows l.touches) l.first ≡ bucket_at (length l.touches) (touches_of l.rows l.touches) l.second;
}

abbrev pub decreases-loop-first : goal.decreases-loop-first
decreases-loop-first l = l.second - l.first
