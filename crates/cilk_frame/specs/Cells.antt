-- Which cells a body sees, and a write to one of them.
use Rattle.std.specs.Prelude.{◌≡◌, ℕ, ◌+◌, ◌<◌, ℤ, pos, true, List, [], length, slice_index_or, slice_set}
use Rattle.cilk_load_nodes.specs.declared.area.Area.{Area}
use Rattle.cilk_load_nodes.specs.declared.area.Area.TheVariants.{Own, Outer, Global}
use Rattle.cilk_load_nodes.specs.declared.slot.Slot.{Slot}
use Rattle.cilk_load_nodes.specs.labelled.Labelled.{Declaration, local, outer, global, of_lock, of_body, unknown, Variable, Labelled}
use Rattle.cilk_load_nodes.specs.model.Values.{Cell}
use Rattle.cilk_load_nodes.specs.model.Instance.{body_at}
use Rattle.cilk_load_nodes.specs.Slots.{size_of, is_inlet, procedure_around, slot_of}
use Rattle.cilk_frame.specs.Frames.{Frame, top_place, with_cell}

-- what stands where there is no variable
abbrev pub no_variable : Variable
no_variable = record { name = []; length = 0; initial = pos 0 }

abbrev pub variable_at : List Variable → ℕ → Variable
variable_at variables n = slice_index_or variables n no_variable

-- the variables of body b, and of the procedure around it
abbrev pub own_variables : Labelled → ℕ → List Variable
own_variables program b = (body_at program b).variables

abbrev pub outer_variables : Labelled → ℕ → List Variable
outer_variables program b = own_variables program (procedure_around program b)

-- body b is that of an inlet, which sees the variables of its procedure (Cilk 5.4 manual, `inlet`)
abbrev pub IsInlet : Labelled → ℕ → Type 0
IsInlet program b = is_inlet (body_at program b).owner ≡ true

-- there is a variable n with a cell k
abbrev pub HasIn : List Variable → ℕ → ℕ → Type 0
HasIn variables n k = (n < length variables) × (k < size_of (variable_at variables n))

-- body b sees a cell k of what a name in it means
abbrev pub HasCell : Labelled → ℕ → Declaration → ℕ → Type 0
HasCell program b (local n) k = HasIn (own_variables program b) n k
HasCell program b (outer n) k = IsInlet program b × HasIn (outer_variables program b) n k
HasCell program b (global n) k = HasIn program.globals n k
HasCell program b (of_lock n) k = ⊥
HasCell program b (of_body n) k = ⊥
HasCell program b unknown k = ⊥

-- the cell at an index of a slot is this one, which body b sees
pub record SameCell (program : Labelled) (b : ℕ) (slot : Slot) (index : ℕ) (cell : Cell) : Type 0 where
  pub slot_is : slot ≡ slot_of program b cell.place
  pub index_is : index ≡ cell.index
  pub there : HasCell program b cell.place cell.index

-- the frame with z in a cell of an area: that of the procedure is the lowest activation's
abbrev pub put_in : Area → ℕ → ℤ → Frame → Frame
put_in Own k z f = with_cell (top_place f) k z f
put_in Outer k z f = with_cell 0 k z f
put_in Global k z f = f

abbrev pub frame_put : Slot → ℕ → ℤ → Frame → Frame
frame_put slot index z f = put_in slot.area (slot.offset + index) z f

-- the cells of the top level then
abbrev pub globals_in : Area → ℕ → ℤ → List ℤ → List ℤ
globals_in Own k z cells = cells
globals_in Outer k z cells = cells
globals_in Global k z cells = slice_set cells k z

abbrev pub globals_put : Slot → ℕ → ℤ → List ℤ → List ℤ
globals_put slot index z cells = globals_in slot.area (slot.offset + index) z cells
