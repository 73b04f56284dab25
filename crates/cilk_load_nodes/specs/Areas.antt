-- The environment that slots are: the cells of a variable stand one after another in its area.
use Rattle.std.specs.Prelude.{ℕ, ◌+◌, ◌≤◌, max, ⊤, ℤ, pos, Bool, List, length, slice_index_or}
use Rattle.cilk_load_nodes.specs.declared.area.Area.{Area}
use Rattle.cilk_load_nodes.specs.declared.area.Area.TheVariants.{Own, Outer, Global}
use Rattle.cilk_load_nodes.specs.declared.slot.Slot.{Slot}
use Rattle.cilk_load_nodes.specs.declared.slots.Slots.{Slots}
use Rattle.cilk_model.specs.labelled.Term.{Term}
use Rattle.cilk_load_nodes.specs.Reads.{AllReads}
use Rattle.cilk_model.specs.labelled.Value.{Environment}

-- the cells of the three areas, and whether the instance has nothing to wait for
pub record Cells : Type 0 where
  pub own : List ℤ
  pub outer : List ℤ
  pub globals : List ℤ
  pub synched : Bool

-- what `Slots` lend
abbrev pub cells_of : Slots → Cells
cells_of slots =
    record { own = slots.own.now; outer = slots.outer.now; globals = slots.globals.now; synched = slots.synched }

-- the cells of an area
abbrev pub area_cells : Cells → Area → List ℤ
area_cells cells Own = cells.own
area_cells cells Outer = cells.outer
area_cells cells Global = cells.globals

-- the value of a variable is its first cell, and element k of an array is k cells further on
abbrev pub slot_cell : Cells → Slot → ℕ → ℤ
slot_cell cells slot k = slice_index_or (area_cells cells slot.area) (slot.offset + k) (pos 0)

-- what the slots hold
abbrev pub environment : Cells → Environment Slot
environment cells = record {
  value = λ slot. slot_cell cells slot 0;
  length = λ slot. slot.length;
  cell = slot_cell cells;
  synched = cells.synched;
}

-- how many cells each area has
pub record Sizes : Type 0 where
  pub own : ℕ
  pub outer : ℕ
  pub globals : ℕ

abbrev pub sizes_of : Cells → Sizes
sizes_of cells =
    record { own = length cells.own; outer = length cells.outer; globals = length cells.globals }

abbrev pub area_size : Sizes → Area → ℕ
area_size sizes Own = sizes.own
area_size sizes Outer = sizes.outer
area_size sizes Global = sizes.globals

-- all cells of the slot lie in its area; a variable that is no array has one
abbrev pub LiesWithin : Sizes → Slot → Type 0
LiesWithin sizes slot = slot.offset + max slot.length 1 ≤ area_size sizes slot.area

-- each slot that stands in the expression lies in its area
abbrev pub SlotsLieWithin : Sizes → Term Slot → Type 0
SlotsLieWithin sizes t = AllReads (LiesWithin sizes) (LiesWithin sizes) ⊤ t
