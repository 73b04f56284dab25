-- What the action of each number does, and which of them enter and leave bodies.
use Rattle.std.specs.Prelude.{ℕ, Bool, true, false, if◌then◌else◌, List, [], ◌∷◌, Option, Some, None, option_map}
use Rattle.cilk_log_replay.specs.machine.nodes.model.labelled.Labelled.{Taker, through, Action, call, spawn, Numbered, Labelled}
use Rattle.cilk_log_replay.specs.machine.nodes.model.labelled.Items.{Items, head_of}
use Rattle.cilk_log_replay.specs.machine.nodes.Table.{Row, number_of, has_number, rows_from}

-- that of these lists which has action n in front
abbrev pub list_among : ℕ → List Row → Items
list_among n [] = []
list_among n (r ∷ rows) = if has_number n (number_of r.items) then r.items else list_among n rows

abbrev pub act_in : Items → Option Action
act_in items = option_map (λ (h : Numbered). h.act) (head_of items)

-- what action n of the program does, counted from 1 on in the order of the text
abbrev pub act_of : Labelled → ℕ → Option Action
act_of program n = act_in (list_among n (rows_from 0 program.bodies))

-- a C function is called (C 1990, 6.3.2.2)
abbrev pub is_call : Action → Bool
is_call (call place callee arguments) = true
is_call other = false

abbrev pub is_through : Taker → Bool
is_through (through inlet others) = true
is_through other = false

-- a child is spawned whose value an inlet takes (Cilk 5.4 manual, `inlet`)
abbrev pub goes_through : Action → Bool
goes_through (spawn taker callee arguments) = is_through taker
goes_through other = false

-- whether there is such an action, and it is so
abbrev pub is_so : {A : Type 0} → (A → Bool) → Option A → Bool
is_so f None = false
is_so f (Some act) = f act
