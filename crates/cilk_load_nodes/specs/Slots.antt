-- Where variables lie: their cells stand one variable after another, in the order of the declarations.
use Rattle.std.specs.Prelude.{ℕ, zero, suc, ◌+◌, ℤ, Bool, true, false, if◌then◌else◌, max, List, [], ◌∷◌, ◌++◌}
use Rattle.cilk_model.specs.scopes.declared.owner.Owner.{Owner}
use Rattle.cilk_model.specs.scopes.declared.owner.Owner.TheVariants.{Function, Procedure, Inlet}
use Rattle.cilk_load_nodes.specs.declared.area.Area.{Area}
use Rattle.cilk_load_nodes.specs.declared.area.Area.TheVariants.{Own, Outer, Global}
use Rattle.cilk_load_nodes.specs.declared.slot.Slot.{Slot}
use Rattle.cilk_model.specs.labelled.Labelled.{Declaration, local, outer, global, of_lock, of_body, unknown, Variable, Labelled}
use Rattle.cilk_model.specs.Values.{Values}
use Rattle.cilk_model.specs.Instance.{body_at}

-- how many cells a variable has: one, if it is no array
abbrev pub size_of : Variable → ℕ
size_of v = max v.length 1

-- how many cells variables have together
abbrev pub cells_of : List Variable → ℕ
cells_of [] = 0
cells_of (v ∷ variables) = size_of v + cells_of variables

-- what they hold, one variable after another
abbrev pub flat : Values → List ℤ
flat [] = []
flat (cells ∷ values) = cells ++ flat values

-- the slot of a variable whose cells begin at a place
abbrev pub slot_at : Area → ℕ → ℕ → Slot
slot_at area at length = record { area = area; offset = at; length = length }

-- the slot of what is no variable, which no expression of a well-formed program has
abbrev pub nowhere : Slot
nowhere = slot_at Global 0 0

-- the slot of variable n, counted from 0, where the cells of variable 0 begin at `at`
abbrev pub slot_from : Area → ℕ → List Variable → ℕ → Slot
slot_from area at [] n = nowhere
slot_from area at (v ∷ variables) zero = slot_at area at v.length
slot_from area at (v ∷ variables) (suc n) = slot_from area (at + size_of v) variables n

abbrev pub is_inlet : Owner → Bool
is_inlet (Function returns) = false
is_inlet (Procedure returns) = false
is_inlet Inlet = true

-- the body of the procedure around body b, if b is that of an inlet, which stands behind it; else b
abbrev pub procedure_around : Labelled → ℕ → ℕ
procedure_around program zero = 0
procedure_around program (suc b) = if is_inlet (body_at program (suc b)).owner then procedure_around program b else suc b

-- the slot that stands for a declaration in body b
abbrev pub slot_of : Labelled → ℕ → Declaration → Slot
slot_of program b (local n) = slot_from Own 0 (body_at program b).variables n
slot_of program b (outer n) = slot_from Outer 0 (body_at program (procedure_around program b)).variables n
slot_of program b (global n) = slot_from Global 0 program.globals n
slot_of program b (of_lock n) = nowhere
slot_of program b (of_body n) = nowhere
slot_of program b unknown = nowhere
