-- What a step changed of a frame is put back.
use Rattle.std.proofs.Common.{◌≡◌, ◌<◌, ◌-◌, ◌+◌, ◌++◌, ◌∷◌, [], ℕ, ℤ, pos, zero, suc, true, Bool, List, length, take, refl, sym, ap, ◌∙◌, arith}
use Rattle.std.proofs.Common.{slice_set, length-set, length-append, take_at, take_all}
use Rattle.std.specs.Prelude.{slice_index_or}
use Rattle.std.proofs.lemmas.List.{take_more}
use Rattle.cilk_machine_plan.specs.nodes.declared.area.Area.{Area}
use Rattle.cilk_machine_plan.specs.nodes.declared.area.Area.TheVariants.{Own, Outer, Global}
use Rattle.cilk_machine_plan.specs.nodes.Areas.{area_cells}
use Rattle.cilk_machine_plan.specs.eval.declared.reached.Reached.{Reached}
use Rattle.cilk_machine_plan.specs.frame.Frames.{Frame, Activation, no_activation, activation_at, depth, top_place, top_of, with_cell, gone_to}
use Rattle.cilk_machine_plan.specs.frame.Frames.{entered, left, stood}
use Rattle.cilk_machine_plan.specs.frame.Cells.{put_in, globals_in}
use Rattle.cilk_machine_plan.specs.frame.Reads.{lent}
use Rattle.cilk_machine_undo.specs.Frames.{held_at, put_at}
use Rattle.cilk_machine_undo.proofs.Back.{back_at, came_back}

pub jump-back : (f : Frame) (to : ℕ) (b : Bool) → stood (top_of f).node f.boundary (stood to b f) ≡ f
jump-back f to b =
    let xs = f.activations in
    let last = length xs - 1 in
    let there : Activation = record (slice_index_or xs last no_activation) { node = to } in
    let ys : List Activation = slice_set xs last there in
    let size : length ys - 1 ≡ last = ap (λ k. k - 1) (length-set xs last there) in
    let back : Activation → Activation = λ a. record a { node = (slice_index_or xs last no_activation).node } in
    (λ i. record f { activations = back_at no_activation ys (size i) back })
    ∙ (λ i. record f { activations = came_back no_activation xs last there back refl i })

-- what a cell of activation i holds
abbrev cell_at : Frame → ℕ → ℕ → ℤ
cell_at f i k = slice_index_or (activation_at f i).cells k (pos 0)

cell-back : (f : Frame) (i k : ℕ) (z : ℤ) → with_cell i k (cell_at f i k) (with_cell i k z f) ≡ f
cell-back f i k z =
    let xs = f.activations in
    let was = slice_index_or xs i no_activation in
    let there : Activation = record was { cells = slice_set was.cells k z } in
    λ j. record f {
      activations = came_back no_activation xs i there (λ a. record a { cells = slice_set a.cells k (cell_at f i k) })
          (λ l. record was { cells = came_back (pos 0) was.cells k z (λ _. cell_at f i k) refl l }) j;
    }

-- what cell k of an area holds
abbrev pub held_in : Area → ℕ → Frame → List ℤ → ℤ
held_in area k f globals = slice_index_or (area_cells (lent f globals true) area) k (pos 0)

pub put-back : (area : Area) (k : ℕ) (z : ℤ) (f : Frame) (globals : List ℤ) → put_in area k (held_in area k f globals) (put_in area k z f) ≡ f
put-back Own k z f globals =
    let xs = f.activations in
    let at = top_place f in
    let was = slice_index_or xs at no_activation in
    let there : Activation = record was { cells = slice_set was.cells k z } in
    let size : top_place (with_cell at k z f) ≡ at = ap (λ n. n - 1) (length-set xs at there) in
    (λ i. with_cell (size i) k (cell_at f at k) (with_cell at k z f)) ∙ cell-back f at k z
put-back Outer k z f globals = cell-back f 0 k z
put-back Global k z f globals = refl

-- those of the top level
pub globals-back : (area : Area) (k : ℕ) (z : ℤ) (f : Frame) (globals : List ℤ)
    → globals_in area k (held_in area k f globals) (globals_in area k z globals) ≡ globals
globals-back Own k z f globals = refl
globals-back Outer k z f globals = refl
globals-back Global k z f globals = came_back (pos 0) globals k z (λ _. slice_index_or globals k (pos 0)) refl

jumped-cells : (xs : List Activation) (last to i : ℕ)
    → (slice_index_or (slice_set xs last (record (slice_index_or xs last no_activation) { node = to })) i no_activation).cells
    ≡ (slice_index_or xs i no_activation).cells
jumped-cells [] last to i = refl
jumped-cells (x ∷ xs) zero to zero = refl
jumped-cells (x ∷ xs) zero to (suc i) = refl
jumped-cells (x ∷ xs) (suc last) to zero = refl
jumped-cells (x ∷ xs) (suc last) to (suc i) = jumped-cells xs last to i

-- a jump leaves the cells as they are
pub gone-held : (area : Area) (k to : ℕ) (f : Frame) (globals : List ℤ) → held_in area k (gone_to to f) globals ≡ held_in area k f globals
gone-held Own k to f globals =
    let xs = f.activations in
    let last = top_place f in
    let size : top_place (gone_to to f) ≡ last = ap (λ n. n - 1) (length-set xs last (record (slice_index_or xs last no_activation) { node = to })) in
    ap (λ i. cell_at (gone_to to f) i k) size ∙ ap (λ (cells : List ℤ). slice_index_or cells k (pos 0)) (jumped-cells xs last to last)
gone-held Outer k to f globals = ap (λ (cells : List ℤ). slice_index_or cells k (pos 0)) (jumped-cells f.activations (top_place f) to 0)
gone-held Global k to f globals = refl

pub wrote-back : (f : Frame) (r : Reached) (z : ℤ) (to : ℕ) (globals : List ℤ)
    → stood (top_of f).node f.boundary (put_at r (held_at r f globals) (put_at r z (gone_to to f))) ≡ f
wrote-back f r z to globals =
    let area = r.slot.area in
    let k = r.slot.offset + r.index in
    let g = gone_to to f in
    ap (λ y. stood (top_of f).node f.boundary (put_in area k y (put_in area k z g))) (sym (gone-held area k to f globals))
    ∙ ap (stood (top_of f).node f.boundary) (put-back area k z g globals) ∙ jump-back f to g.boundary

pub call-back : (f : Frame) (a : Activation) → left (entered a f) ≡ f
call-back f a =
    let xs = f.activations in
    let short : length xs ≡ length (xs ++ a ∷ []) - 1 = omega (arith, length-append xs (a ∷ [])) in
    λ i. record f { activations = take_at xs (a ∷ []) (length (xs ++ a ∷ []) - 1) short i }

pub leave-back : (f : Frame) → 0 < depth f → entered (top_of f) (left f) ≡ f
leave-back f some =
    let xs = f.activations in
    let last = length xs - 1 in
    let all : take (last + 1) xs ≡ xs = take_all (last + 1) xs (omega arith) in
    λ i. record f { activations = (sym (take_more xs last no_activation (omega arith)) ∙ all) i }
