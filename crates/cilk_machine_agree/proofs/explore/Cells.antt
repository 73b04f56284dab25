-- Cells tell what variables hold, and a slot tells its variable.
use Rattle.std.proofs.Common.{◌≡◌, ℕ, zero, suc, ◌+◌, ◌<◌, ℤ, List, [], ◌∷◌, ◌++◌, length, map, Option, Some, None, refl, sym, ap, ◌∙◌, subst, arith}
use Rattle.cilk_machine_agree.specs.sched.nodes.declared.area.Area.{Area}
use Rattle.cilk_machine_agree.specs.sched.nodes.declared.area.Area.TheVariants.{Own, Outer, Global}
use Rattle.cilk_machine_agree.specs.sched.nodes.declared.slot.Slot.{Slot}
use Rattle.cilk_machine_agree.specs.labelled.Labelled.{Declaration, local, outer, global, of_lock, of_body, unknown, Variable, Labelled}
use Rattle.cilk_machine_agree.specs.model.Values.{Values, Cell}
use Rattle.cilk_machine_agree.specs.nodes.Slots.{size_of, flat, slot_from, slot_of}
use Rattle.cilk_machine_agree.specs.frame.Cells.{own_variables, outer_variables, HasCell, SameCell}
use Rattle.cilk_machine_agree.proofs.frame_laws.SlotLaws.{slot-area, slot-offset}

-- fronts of one length
parts : (xs ys us vs : List ℤ) → length xs ≡ length ys → xs ++ us ≡ ys ++ vs → (xs ≡ ys) × (us ≡ vs)
parts [] [] us vs n e = (refl, e)
parts [] (y ∷ ys) us vs n e = cc
parts (x ∷ xs) [] us vs n e = cc
parts (x ∷ xs) (y ∷ ys) us vs n e =
    let first : x ≡ y = cc in
    let size : length xs ≡ length ys = cc in
    let rest : xs ++ us ≡ ys ++ vs = cc in
    let others = parts xs ys us vs size rest in
    (λ i. first i ∷ others.0 i, others.1)

-- cells tell values of these sizes
pub one-values : (v w : Values) → map length v ≡ map length w → flat v ≡ flat w → v ≡ w
one-values [] [] n e = refl
one-values [] (ys ∷ w) n e = cc
one-values (xs ∷ v) [] n e = cc
one-values (xs ∷ v) (ys ∷ w) n e =
    let size : length xs ≡ length ys = cc in
    let sizes : map length v ≡ map length w = cc in
    let both = parts xs ys (flat v) (flat w) size e in
    let others = one-values v w sizes both.1 in
    λ i. both.0 i ∷ others i

-- variables lie apart, as each has a cell
one-variable : (area : Area) (at : ℕ) (variables : List Variable) (n m : ℕ) → n < length variables → m < length variables
    → (slot_from area at variables n).offset ≡ (slot_from area at variables m).offset → n ≡ m
one-variable area at [] n m h k e = absurd (omega arith)
one-variable area at (v ∷ variables) zero zero h k e = refl
one-variable area at (v ∷ variables) zero (suc m) h k e =
    let far = slot-offset area (at + size_of v) variables m (omega arith) in
    absurd (omega (arith, e, far))
one-variable area at (v ∷ variables) (suc n) zero h k e =
    let far = slot-offset area (at + size_of v) variables n (omega arith) in
    absurd (omega (arith, e, far))
one-variable area at (v ∷ variables) (suc n) (suc m) h k e =
    ap suc (one-variable area (at + size_of v) variables n m (omega arith) (omega arith) e)

module _ (program : Labelled) (b : ℕ) where
  -- where the cells of a name lie
  abbrev area_of : Declaration → Option Area
  area_of (local n) = Some Own
  area_of (outer n) = Some Outer
  area_of (global n) = Some Global
  area_of (of_lock n) = None
  area_of (of_body n) = None
  area_of unknown = None

  area-is : (d : Declaration) (k : ℕ) → HasCell program b d k → area_of d ≡ Some (slot_of program b d).area
  area-is (local n) k h = ap Some (sym (slot-area Own 0 (own_variables program b) n h.0))
  area-is (outer n) k h = ap Some (sym (slot-area Outer 0 (outer_variables program b) n h.1.0))
  area-is (global n) k h = ap Some (sym (slot-area Global 0 program.globals n h.0))
  area-is (of_lock n) k h = absurd h
  area-is (of_body n) k h = absurd h
  area-is unknown k h = absurd h

  -- where body b sees a cell of both
  one-declared : (d e : Declaration) (k : ℕ) → HasCell program b d k → HasCell program b e k → area_of d ≡ area_of e
      → (slot_of program b d).offset ≡ (slot_of program b e).offset → d ≡ e
  one-declared (local n) (local m) k h g same at = ap local (one-variable Own 0 (own_variables program b) n m h.0 g.0 at)
  one-declared (outer n) (outer m) k h g same at = ap outer (one-variable Outer 0 (outer_variables program b) n m h.1.0 g.1.0 at)
  one-declared (global n) (global m) k h g same at = ap global (one-variable Global 0 program.globals n m h.0 g.0 at)
  one-declared (of_lock n) e k h g same at = absurd h
  one-declared (of_body n) e k h g same at = absurd h
  one-declared unknown e k h g same at = absurd h
  one-declared d e k h g same at = cc

  pub one-cell : (slot : Slot) (index : ℕ) (c d : Cell) → SameCell program b slot index c → SameCell program b slot index d → c ≡ d
  one-cell slot index c d x y =
      let at : c.index ≡ d.index = sym x.index_is ∙ y.index_is in
      let slots : slot_of program b c.place ≡ slot_of program b d.place = sym x.slot_is ∙ y.slot_is in
      let there : HasCell program b d.place c.index = subst (HasCell program b d.place) (sym at) y.there in
      let place = one-declared c.place d.place c.index x.there there
      (area-is c.place c.index x.there ∙ ap (λ (s : Slot). Some s.area) slots ∙ sym (area-is d.place c.index there))
      (ap (λ (s : Slot). s.offset) slots) in
      λ i. record { place = place i; index = at i }
