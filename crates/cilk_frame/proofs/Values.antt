-- An expression has the same value over the cells of a frame as over the values of its instance.
use Rattle.std.proofs.Common.{◌≡◌, ℕ, zero, suc, ◌+◌, ◌-◌, ◌<◌, pos, List, [], ◌∷◌, length, map, max, refl, ap, ◌∙◌, arith}
use Rattle.std.specs.Prelude.{slice_index_or, ⊤}
use Rattle.cilk_load_nodes.specs.labelled.Term.{Term, rename}
use Rattle.cilk_load_nodes.specs.labelled.Value.{Environment, seen_through, value_of}
use Rattle.cilk_load_nodes.specs.declared.area.Area.{Area}
use Rattle.cilk_load_nodes.specs.declared.area.Area.TheVariants.{Own, Outer, Global}
use Rattle.cilk_load_nodes.specs.declared.slot.Slot.{Slot}
use Rattle.cilk_load_nodes.specs.Reads.{SameArray}
use Rattle.cilk_load_nodes.specs.Areas.{Cells, area_cells, slot_cell, sizes_of, area_size, LiesWithin, SlotsLieWithin}
use Rattle.cilk_load_nodes.specs.Areas as slots
use Rattle.cilk_load_nodes.proofs.Places.{AllReads-map, AllReads-rename}
use Rattle.cilk_load_nodes.proofs.Environments.{value_of-rename, value_of-same}
use Rattle.cilk_load_nodes.specs.labelled.Labelled.{Declaration, local, outer, global, of_lock, of_body, unknown, Variable, Labelled}
use Rattle.cilk_load_nodes.specs.model.Values.{Values, Store, cell_of, environment}
use Rattle.cilk_load_nodes.specs.Slots.{size_of, flat, slot_from, slot_of}
use Rattle.cilk_frame.specs.Cells.{no_variable, own_variables, outer_variables, IsInlet, HasCell}
use Rattle.cilk_frame.specs.Reads.{IsVariable, IsArray, IsKnown, Seen}
use Rattle.cilk_frame.proofs.Flat.{before, flat-get}
use Rattle.cilk_frame.proofs.SlotLaws.{slot-area, slot-offset, slot-length, cells-size, within}

area-size : (cells : Cells) (area : Area) → area_size (sizes_of cells) area ≡ length (area_cells cells area)
area-size cells Own = refl
area-size cells Outer = refl
area-size cells Global = refl

-- an array is among the variables
pub array-inside : (variables : List Variable) (n : ℕ) → 0 < (slice_index_or variables n no_variable).length → n < length variables
array-inside [] n h = absurd (omega arith)
array-inside (v ∷ variables) zero h = omega arith
array-inside (v ∷ variables) (suc n) h = let inside = array-inside variables n h in omega arith

-- variables that lie in an area from its first cell on
record Lies (area : Area) (cells : Cells) (variables : List Variable) (values : Values) : Type 0 where
  are : area_cells cells area ≡ flat values
  sizes : map length values ≡ map size_of variables

module _ (area : Area) (cells : Cells) (variables : List Variable) (values : Values) (lies : Lies area cells variables values) where
  abbrev slot : ℕ → Slot
  slot n = slot_from area 0 variables n

  reads : (n k : ℕ) → n < length variables → k < size_of (slice_index_or variables n no_variable)
      → slot_cell cells (slot n) k ≡ slice_index_or (slice_index_or values n []) k (pos 0)
  reads n k inside below =
      let size = cells-size values variables n lies.sizes inside in
      let offset = slot-offset area 0 variables n inside in
      let starts = ap (λ ss. before ss n) lies.sizes in
      let place : (slot n).offset + k ≡ before (map length values) n + k = omega arith in
      ap (λ a. slice_index_or (area_cells cells a) ((slot n).offset + k) (pos 0)) (slot-area area 0 variables n inside)
      ∙ (λ i. slice_index_or (lies.are i) (place i) (pos 0)) ∙ flat-get values n k (pos 0) (omega arith)

  lie-within : (n : ℕ) → n < length variables → LiesWithin (sizes_of cells) (slot n)
  lie-within n inside =
      let size = cells-size values variables n lies.sizes inside in
      let offset = slot-offset area 0 variables n inside in
      let long = slot-length area 0 variables n in
      let starts = ap (λ ss. before ss n) lies.sizes in
      let room : area_size (sizes_of cells) (slot n).area ≡ length (flat values) =
      area-size cells (slot n).area ∙ ap (λ a. length (area_cells cells a)) (slot-area area 0 variables n inside) ∙ ap length lies.are in
      let last : before (map length values) n + (max (slot n).length 1 - 1) < length (flat values) = within values n (max (slot n).length 1 - 1)
      (omega arith) in
      omega arith

  cell-within : (n k : ℕ) → n < length variables → k < size_of (slice_index_or variables n no_variable)
      → (slot n).offset + k < length (area_cells cells (slot n).area)
  cell-within n k inside below =
      let size = cells-size values variables n lies.sizes inside in
      let offset = slot-offset area 0 variables n inside in
      let starts = ap (λ ss. before ss n) lies.sizes in
      let room : length (area_cells cells (slot n).area) ≡ length (flat values) =
      ap (λ a. length (area_cells cells a)) (slot-area area 0 variables n inside) ∙ ap length lies.are in
      let last : before (map length values) n + k < length (flat values) = within values n k (omega arith) in
      omega arith

  array-length : (n : ℕ) → 0 < (slice_index_or variables n no_variable).length → (slot n).length ≡ length (slice_index_or values n [])
  array-length n h =
      let size = cells-size values variables n lies.sizes (array-inside variables n h) in
      let long = slot-length area 0 variables n in
      omega arith

  array-cells : (n : ℕ) → 0 < (slice_index_or variables n no_variable).length → (k : ℕ) → k < (slot n).length
      → slot_cell cells (slot n) k ≡ slice_index_or (slice_index_or values n []) k (pos 0)
  array-cells n h k below =
      let long = slot-length area 0 variables n in
      reads n k (array-inside variables n h) (omega arith)

module _ (program : Labelled) (b : ℕ) (cells : Cells) (store : Store) (s : Seen program b cells store) where
  own : Lies Own cells (own_variables program b) store.own
  own = record { are = s.own_are; sizes = s.own_sizes }

  outside : IsInlet program b → Lies Outer cells (outer_variables program b) store.outer
  outside inlet = record { are = s.outer_are inlet; sizes = s.outer_sizes inlet }

  top_level : Lies Global cells program.globals store.globals
  top_level = record { are = s.globals_are; sizes = s.global_sizes }

  -- a variable that is no array
  pub variable-same : (d : Declaration) → IsVariable program b d → slot_cell cells (slot_of program b d) 0 ≡ cell_of store d 0
  variable-same (local n) h = reads Own cells (own_variables program b) store.own own n 0 h (omega arith)
  variable-same (outer n) (inlet, h) = reads Outer cells (outer_variables program b) store.outer (outside inlet) n 0 h (omega arith)
  variable-same (global n) h = reads Global cells program.globals store.globals top_level n 0 h (omega arith)
  variable-same (of_lock n) h = absurd h
  variable-same (of_body n) h = absurd h
  variable-same unknown h = absurd h

  pub array-same : (d : Declaration) → IsArray program b d → SameArray (seen_through (slot_of program b) (slots.environment cells)) (environment store) d
  array-same (local n) h = record {
    length = array-length Own cells (own_variables program b) store.own own n h;
    cells = array-cells Own cells (own_variables program b) store.own own n h;
  }
  array-same (outer n) (inlet, h) = record {
    length = array-length Outer cells (outer_variables program b) store.outer (outside inlet) n h;
    cells = array-cells Outer cells (outer_variables program b) store.outer (outside inlet) n h;
  }
  array-same (global n) h = record {
    length = array-length Global cells program.globals store.globals top_level n h;
    cells = array-cells Global cells program.globals store.globals top_level n h;
  }
  array-same (of_lock n) h = absurd h
  array-same (of_body n) h = absurd h
  array-same unknown h = absurd h

  pub declared-within : (d : Declaration) → IsVariable program b d → LiesWithin (sizes_of cells) (slot_of program b d)
  declared-within (local n) h = lie-within Own cells (own_variables program b) store.own own n h
  declared-within (outer n) (inlet, h) = lie-within Outer cells (outer_variables program b) store.outer (outside inlet) n h
  declared-within (global n) h = lie-within Global cells program.globals store.globals top_level n h
  declared-within (of_lock n) h = absurd h
  declared-within (of_body n) h = absurd h
  declared-within unknown h = absurd h

  -- a cell that the body sees
  pub cell-same : (d : Declaration) (k : ℕ) → HasCell program b d k → slot_cell cells (slot_of program b d) k ≡ cell_of store d k
  cell-same (local n) k (inside, below) = reads Own cells (own_variables program b) store.own own n k inside below
  cell-same (outer n) k (inlet, (inside, below)) = reads Outer cells (outer_variables program b) store.outer (outside inlet) n k inside below
  cell-same (global n) k (inside, below) = reads Global cells program.globals store.globals top_level n k inside below
  cell-same (of_lock n) k h = absurd h
  cell-same (of_body n) k h = absurd h
  cell-same unknown k h = absurd h

  pub cell-there : (d : Declaration) (k : ℕ) → HasCell program b d k
      → (slot_of program b d).offset + k < length (area_cells cells (slot_of program b d).area)
  cell-there (local n) k (inside, below) = cell-within Own cells (own_variables program b) store.own own n k inside below
  cell-there (outer n) k (inlet, (inside, below)) = cell-within Outer cells (outer_variables program b) store.outer (outside inlet) n k inside below
  cell-there (global n) k (inside, below) = cell-within Global cells program.globals store.globals top_level n k inside below
  cell-there (of_lock n) k h = absurd h
  cell-there (of_body n) k h = absurd h
  cell-there unknown k h = absurd h

pub array-declared : (program : Labelled) (b : ℕ) (d : Declaration) → IsArray program b d → IsVariable program b d
array-declared program b (local n) h = array-inside (own_variables program b) n h
array-declared program b (outer n) (inlet, h) = (inlet, array-inside (outer_variables program b) n h)
array-declared program b (global n) h = array-inside program.globals n h
array-declared program b (of_lock n) h = h
array-declared program b (of_body n) h = h
array-declared program b unknown h = h

pub value-same : (program : Labelled) (b : ℕ) (cells : Cells) (store : Store) (t : Term Declaration) → Seen program b cells store → IsKnown program b t
    → value_of (slots.environment cells) (rename (slot_of program b) t) ≡ value_of (environment store) t
value-same program b cells store t s h =
    let env : Environment Declaration = seen_through (slot_of program b) (slots.environment cells) in
    value_of-rename (slot_of program b) (slots.environment cells) t
    ∙ value_of-same env (environment store) t
    (AllReads-map (IsVariable program b) (λ d. env.value d ≡ (environment store).value d) (IsArray program b) (SameArray env (environment store)) ⊤
    (env.synched ≡ store.synched)
    (λ d known. variable-same program b cells store s d known) (λ d known. array-same program b cells store s d known) (λ _. s.synched_is) t h)

pub slots-within : (program : Labelled) (b : ℕ) (cells : Cells) (store : Store) (t : Term Declaration) → Seen program b cells store → IsKnown program b t
    → SlotsLieWithin (sizes_of cells) (rename (slot_of program b) t)
slots-within program b cells store t s h =
    AllReads-rename (slot_of program b) (LiesWithin (sizes_of cells)) (LiesWithin (sizes_of cells)) ⊤ t
    (AllReads-map (IsVariable program b) (λ d. LiesWithin (sizes_of cells) (slot_of program b d)) (IsArray program b)
    (λ d. LiesWithin (sizes_of cells) (slot_of program b d)) ⊤ ⊤
    (λ d known. declared-within program b cells store s d known) (λ d known. declared-within program b cells store s d (array-declared program b d known))
    (λ u. u) t h)
