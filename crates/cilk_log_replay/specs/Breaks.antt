-- At which choices a move stops.
use Rattle.std.specs.Prelude.{ℕ, zero, suc, ◌+◌, ◌-◌, Bool, false, List, [], ◌∷◌, length, Option, Some, None, option_map, slice_index_or}
use Rattle.std.specs.List.{find, range_with_len}
use Rattle.cilk_machine.specs.model.Event.{Event, acted, spawned, delivered, returned, ended, trapped, moved}
use Rattle.cilk_log_replay.specs.Tape.{Tape, did_at}

-- the number of the action that an instance took, or was trapped at
abbrev pub number_of : Event → Option ℕ
number_of (acted path n) = Some n
number_of (spawned child n) = Some n
number_of (delivered child n) = None
number_of (returned path n) = Some n
number_of (ended path) = None
number_of (trapped kind path n) = Some n
number_of moved = None

-- whether a breakpoint is set at an action: there is a mark for each action, that of the first one in front
abbrev pub is_set : List Bool → ℕ → Bool
is_set marks zero = false
is_set marks (suc k) = slice_index_or marks k false

abbrev pub stops_at : List Bool → Option ℕ → Bool
stops_at marks None = false
stops_at marks (Some n) = is_set marks n

abbrev pub stops_by : List Bool → Option Event → Bool
stops_by marks None = false
stops_by marks (Some did) = stops_at marks (number_of did)

-- whether the choice behind k others does
abbrev pub stops : Tape → List Bool → ℕ → Bool
stops t marks k = stops_by marks (did_at t k)

-- the least position above p behind such a choice, if there is one
abbrev pub next_stop : Tape → List Bool → ℕ → Option ℕ
next_stop t marks p = option_map (λ k. k + 1) (find (stops t marks) (range_with_len p (length t.choices - p)))

-- the numbers below n, the greatest one first
abbrev pub down_from : ℕ → List ℕ
down_from zero = []
down_from (suc n) = n ∷ down_from n

-- the greatest position below p behind such a choice, if there is one
abbrev pub last_stop : Tape → List Bool → ℕ → Option ℕ
last_stop t marks p = option_map (λ k. k + 1) (find (stops t marks) (down_from (p - 1)))
