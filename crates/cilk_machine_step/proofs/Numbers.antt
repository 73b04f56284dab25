-- A variable is found again by where its cells begin.
use Rattle.std.proofs.Common.{◌≡◌, ℕ, zero, suc, ◌+◌, ◌<◌, List, [], ◌∷◌, length, map, nat_lt, not, cond, refl, ap, ◌∙◌, arith, if◌then◌else◌}
use Rattle.std.specs.Prelude.{unwrap_or, slice_get, slice_index_or, Some, None}
use Rattle.std.specs.List.{position_or_len}
use Rattle.std.proofs.lemmas.Bool.{eq-eqb, ne_eqb, lt-ltb}
use Rattle.cilk_machine_plan.specs.nodes.declared.area.Area.{Area}
use Rattle.cilk_machine_plan.specs.labelled.Labelled.{Variable, Body}
use Rattle.cilk_machine_plan.specs.model.Instance.{no_body}
use Rattle.cilk_machine_plan.specs.nodes.declared.area.Area.TheVariants.{Own}
use Rattle.cilk_machine_plan.specs.nodes.Bodies.{body_table, vars_from}
use Rattle.cilk_machine_plan.specs.nodes.Slots.{size_of, slot_from}
use Rattle.cilk_machine_plan.proofs.frame_laws.SlotLaws.{slot-offset}
use Rattle.cilk_machine_step.specs.Shown.{begins_at, number_at, vars_of}

pub vars-length : (area : Area) (at : ℕ) (variables : List Variable) → length (vars_from area at variables) ≡ length variables
vars-length area at [] = refl
vars-length area at (v ∷ variables) = ap suc (vars-length area (at + size_of v) variables)

-- whatever areas both are said to be in
found-at : (area other : Area) (at : ℕ) (variables : List Variable) (n : ℕ) → n < length variables
    → position_or_len (begins_at (slot_from area at variables n).offset) (vars_from other at variables) ≡ n
found-at area other at [] n h = absurd (omega (arith, h))
found-at area other at (v ∷ variables) zero h =
    ap (λ b. cond (not b) (1 + position_or_len (begins_at at) (vars_from other (at + size_of v) variables)) 0) (eq-eqb at at refl)
found-at area other at (v ∷ variables) (suc n) h =
    let inside : n < length variables = omega (arith, h) in
    let offset = slot-offset area (at + size_of v) variables n inside in
    let behind = (slot_from area (at + size_of v) variables n).offset in
    let others = position_or_len (begins_at behind) (vars_from other (at + size_of v) variables) in
    let found : others ≡ n = found-at area other (at + size_of v) variables n inside in
    ap (λ b. cond (not b) (1 + others) 0) (ne_eqb at behind (λ e. omega (arith, e, offset))) ∙ omega (arith, found)

pub number-is : (area other : Area) (variables : List Variable) (n : ℕ) → n < length variables
    → number_at (slot_from area 0 variables n).offset (vars_from other 0 variables) ≡ n
number-is area other variables n h =
    (λ i. unwrap_or (if nat_lt (found-at area other 0 variables n h i) (vars-length other 0 variables i) then Some (found-at area other 0 variables n h i)
    else None) 0)
    ∙ ap (λ b. unwrap_or (if b then Some n else None) 0) (lt-ltb n (length variables) h)

-- the variables of a body in the table
pub vars-are : (bodies : List Body) (b : ℕ)
    → vars_of (slice_get (map body_table bodies) b) ≡ vars_from Own 0 (slice_index_or bodies b no_body).variables
vars-are [] b = refl
vars-are (body ∷ bodies) zero = refl
vars-are (body ∷ bodies) (suc b) = vars-are bodies b
