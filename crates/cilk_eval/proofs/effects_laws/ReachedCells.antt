-- A cell that a known place reaches is there.
use Rattle.std.proofs.Common.{◌≡◌, ℕ, ◌<◌, ℤ, pos, negsuc, Bool, true, false, nat_lt, if◌then◌else◌, length, Result, Ok, Err, refl, subst, arith}
use Rattle.std.proofs.lemmas.Bool.Decides.{Decides-ltb}
use Rattle.cilk_eval.specs.nodes.Areas.{Cells}
use Rattle.cilk_eval.specs.model.declared.trap.Trap.{Trap}
use Rattle.cilk_eval.specs.model.declared.trap.Trap.TheVariants as trap
use Rattle.cilk_eval.specs.labelled.Value.{value_of, ◌>>=◌}
use Rattle.cilk_eval.specs.labelled.Labelled.{Declaration, local, outer, global, of_lock, of_body, unknown, Target, variable, element, Into, Labelled}
use Rattle.cilk_eval.specs.model.Values.{Store, Cell, Reached, cells_of, environment, element_cell, cell_at, reached_at}
use Rattle.cilk_eval.specs.frame.Cells.{own_variables, outer_variables, HasCell}
use Rattle.cilk_eval.specs.frame.Reads.{IsVariable, IsArray, Seen}
use Rattle.cilk_eval.proofs.frame_laws.SlotLaws.{cells-size}
use Rattle.cilk_eval.proofs.frame_laws.Values.{array-declared}
use Rattle.cilk_eval.specs.effects.Known.{KnownTarget}

module _ (program : Labelled) (b : ℕ) where
  -- a variable has a cell 0
  pub variable_has : (d : Declaration) → IsVariable program b d → HasCell program b d 0
  variable_has (local n) h = (h, omega arith)
  variable_has (outer n) h = (h.0, (h.1, omega arith))
  variable_has (global n) h = (h, omega arith)
  variable_has (of_lock n) h = h
  variable_has (of_body n) h = h
  variable_has unknown h = h

  module _ (cells : Cells) (store : Store) (s : Seen program b cells store) where
    -- and each cell that it holds a value in
    holds_has : (d : Declaration) (k : ℕ) → IsVariable program b d → k < length (cells_of store d) → HasCell program b d k
    holds_has (local n) k h low =
        let size = cells-size store.own (own_variables program b) n s.own_sizes h in (h, omega (arith, size, low))
    holds_has (outer n) k h low =
        let size = cells-size store.outer (outer_variables program b) n (s.outer_sizes h.0) h.1 in
        (h.0, (h.1, omega (arith, size, low)))
    holds_has (global n) k h low =
        let size = cells-size store.globals program.globals n s.global_sizes h in (h, omega (arith, size, low))
    holds_has (of_lock n) k h low = h
    holds_has (of_body n) k h low = h
    holds_has unknown k h low = h

    element_has : (d : Declaration) (z : ℤ) (cell : Cell) → IsArray program b d → element_cell (environment store) d z ≡ Ok cell
        → HasCell program b cell.place cell.index
    element_has d (pos k) cell h e = by_test (nat_lt k (length (cells_of store d))) refl e
      where
        by_test : (t : Bool) → nat_lt k (length (cells_of store d)) ≡ t → (if t then Ok (record { place = d; index = k }) else Err trap.Index) ≡ Ok cell
            → HasCell program b cell.place cell.index
        by_test true low e =
            let same : record { place = d; index = k } ≡ cell = cc in
            subst (λ (c : Cell). HasCell program b c.place c.index) same
            (holds_has d k (array-declared program b d h) ((Decides-ltb k (length (cells_of store d))).0 low))
        by_test false low e = cc
    element_has d (negsuc k) cell h e = cc

    cell_has : (target : Target) (cell : Cell) → KnownTarget program b target → cell_at (environment store) target ≡ Ok cell
        → HasCell program b cell.place cell.index
    cell_has (variable d) cell h e =
        let same : record { place = d; index = 0 } ≡ cell = cc in
        subst (λ (c : Cell). HasCell program b c.place c.index) same (variable_has d h)
    cell_has (element d subscript) cell h e = by_value (value_of (environment store) subscript) e
      where
        by_value : (r : Result ℤ Trap) → (r >>= element_cell (environment store) d) ≡ Ok cell → HasCell program b cell.place cell.index
        by_value (Ok z) e = element_has d z cell h.0 e
        by_value (Err t) e = cc

    pub reached_has : (place : Into) (reached : Reached) → KnownTarget program b place.target → reached_at (environment store) place ≡ Ok reached
        → HasCell program b reached.cell.place reached.cell.index
    reached_has place reached h e = by_cell (cell_at (environment store) place.target) refl e
      where
        by_cell : (r : Result Cell Trap) → cell_at (environment store) place.target ≡ r
            → (r >>= λ cell. Ok (record { op = place.op; cell = cell })) ≡ Ok reached → HasCell program b reached.cell.place reached.cell.index
        by_cell (Ok cell) is e =
            let same : record { op = place.op; cell = cell } ≡ reached = cc in
            subst (λ (r : Reached). HasCell program b r.cell.place r.cell.index) same (cell_has place.target cell h is)
        by_cell (Err t) is e = cc
