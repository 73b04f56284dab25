-- A cell below the top activation.
use Rattle.std.proofs.Common.{◌≡◌, ◌<◌, ◌-◌, ◌++◌, ◌∷◌, [], ℕ, ℤ, ap, ◌∙◌, arith, slice_set, length-append}
use Rattle.std.specs.Prelude.{slice_index_or}
use Rattle.std.proofs.lemmas.List.{get_or_append_left, set-append_left}
use Rattle.cilk_machine_plan.specs.nodes.declared.area.Area.TheVariants.{Own}
use Rattle.cilk_machine_plan.specs.frame.Frames.{Frame, Activation, no_activation, depth, top_place, with_cell, put_below, entered}
use Rattle.cilk_machine_plan.specs.frame.Cells.{put_in}

-- a write below the last one
written-below : (f : Frame) (a : Activation) (i k : ℕ) (z : ℤ) → i < depth f → with_cell i k z (entered a f) ≡ entered a (with_cell i k z f)
written-below f a i k z h =
    let xs = f.activations in
    let at = get_or_append_left xs (a ∷ []) no_activation i h in
    (λ j. record f { activations = slice_set (xs ++ a ∷ []) i (record (at j) { cells = slice_set (at j).cells k z }) })
    ∙ (λ j. record f {
      activations = set-append_left xs (a ∷ []) i
          (record (slice_index_or xs i no_activation) { cells = slice_set (slice_index_or xs i no_activation).cells k z }) h j;
    })

pub below-is : (f : Frame) (a : Activation) (k : ℕ) (z : ℤ) → 0 < depth f → put_below k z (entered a f) ≡ entered a (put_in Own k z f)
below-is f a k z some =
    let at : depth (entered a f) - 2 ≡ top_place f = omega (arith, length-append f.activations (a ∷ [])) in
    ap (λ i. with_cell i k z (entered a f)) at ∙ written-below f a (top_place f) k z (omega arith)
