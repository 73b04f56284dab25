-- Slots, and the variables that lie in them.
use Rattle.std.proofs.Common.{◌≡◌, ℕ, zero, suc, ◌+◌, ◌<◌, ℤ, List, [], ◌∷◌, length, map, refl, ap, arith, length-append}
use Rattle.std.specs.Prelude.{slice_index_or}
use Rattle.std.proofs.lemmas.List.{length-set}
use Rattle.cilk_load_nodes.specs.declared.area.Area.{Area}
use Rattle.cilk_load_nodes.specs.labelled.Labelled.{Variable}
use Rattle.cilk_load_nodes.specs.model.Values.{Values}
use Rattle.cilk_load_nodes.specs.model.Change.{with_value}
use Rattle.cilk_load_nodes.specs.Slots.{size_of, flat, slot_from}
use Rattle.cilk_frame.specs.Cells.{no_variable}
use Rattle.cilk_frame.proofs.Flat.{before}

abbrev pub sizes_of : List Variable → List ℕ
sizes_of variables = map size_of variables

pub slot-area : (area : Area) (at : ℕ) (variables : List Variable) (n : ℕ) → n < length variables → (slot_from area at variables n).area ≡ area
slot-area area at [] n h = absurd (omega arith)
slot-area area at (v ∷ variables) zero h = refl
slot-area area at (v ∷ variables) (suc n) h = slot-area area (at + size_of v) variables n (omega arith)

pub slot-offset : (area : Area) (at : ℕ) (variables : List Variable) (n : ℕ) → n < length variables
    → (slot_from area at variables n).offset ≡ at + before (sizes_of variables) n
slot-offset area at [] n h = absurd (omega arith)
slot-offset area at (v ∷ variables) zero h = omega arith
slot-offset area at (v ∷ variables) (suc n) h = let e = slot-offset area (at + size_of v) variables n (omega arith) in omega arith

pub slot-length : (area : Area) (at : ℕ) (variables : List Variable) (n : ℕ)
    → (slot_from area at variables n).length ≡ (slice_index_or variables n no_variable).length
slot-length area at [] n = refl
slot-length area at (v ∷ variables) zero = refl
slot-length area at (v ∷ variables) (suc n) = slot-length area (at + size_of v) variables n

-- how many cells variable n has
pub cells-size : (values : Values) (variables : List Variable) (n : ℕ) → map length values ≡ sizes_of variables → n < length variables
    → length (slice_index_or values n []) ≡ size_of (slice_index_or variables n no_variable)
cells-size values [] n e h = absurd (omega arith)
cells-size [] (v ∷ variables) n e h = cc
cells-size (cells ∷ values) (v ∷ variables) zero e h = cc
cells-size (cells ∷ values) (v ∷ variables) (suc n) e h =
    let others : map length values ≡ sizes_of variables = cc in
    let inside : n < length variables = omega arith in
    cells-size values variables n others inside

-- the cells of a variable lie within all cells
pub within : (values : Values) (n k : ℕ) → k < length (slice_index_or values n []) → before (map length values) n + k < length (flat values)
within [] n k h = absurd (omega arith)
within (cells ∷ values) zero k h = omega (arith, length-append cells (flat values))
within (cells ∷ values) (suc n) k h = omega (arith, within values n k h, length-append cells (flat values))

-- a write leaves the sizes
pub sizes-stay : (values : Values) (n k : ℕ) (z : ℤ) → map length (with_value n k z values) ≡ map length values
sizes-stay [] n k z = refl
sizes-stay (cells ∷ values) zero k z = ap (λ m. m ∷ map length values) (length-set cells k z)
sizes-stay (cells ∷ values) (suc n) k z = ap (λ ms. length cells ∷ ms) (sizes-stay values n k z)
