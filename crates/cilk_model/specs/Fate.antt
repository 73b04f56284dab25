-- What became of each instance ever made, read off the events.
use Rattle.std.specs.Prelude.{ℕ, suc, Bool, false, ◌||◌, if◌then◌else◌, List, [], ◌∷◌, Option, Some, None}
use Rattle.std.specs.List.{list_any}
use Rattle.cilk_model.specs.Path.{Path, same_path}
use Rattle.cilk_model.specs.Event.{Event, acted, spawned, delivered, returned, ended, trapped, moved}

pub data Fate : Type 0 where
  lives : Fate
  has_returned : Fate
  -- its value was taken at this choice, counted from 1
  was_delivered : (choice : ℕ) → Fate
  -- it ended after an `abort`, at this choice
  was_aborted : (choice : ℕ) → Fate

-- its fate after event k, where it was this before
abbrev pub fate_by : ℕ → Path → Event → Fate → Fate
fate_by k p (acted q n) fate = fate
fate_by k p (spawned q n) fate = fate
fate_by k p (delivered q n) fate = if same_path q p then was_delivered k else fate
fate_by k p (returned q n) fate = if same_path q p then has_returned else fate
fate_by k p (ended q) fate = if same_path q p then was_aborted k else fate
fate_by k p (trapped kind q n) fate = fate
fate_by k p moved fate = fate

abbrev pub fate_from : ℕ → Path → List Event → Fate → Fate
fate_from k p [] fate = fate
fate_from k p (e ∷ events) fate = fate_from (suc k) p events (fate_by k p e fate)

abbrev pub is_birth : Path → Event → Bool
is_birth p (spawned q n) = same_path q p
is_birth p other = false

-- the root, or a child that was spawned
abbrev pub was_made : List Event → Path → Bool
was_made events p = same_path p [] || list_any (is_birth p) events

abbrev pub fate_of : List Event → Path → Option Fate
fate_of events p = if was_made events p then Some (fate_from 1 p events lives) else None
