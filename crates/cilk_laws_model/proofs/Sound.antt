-- Each delivery that waits is of a child that has returned, and waits once.
use Rattle.std.proofs.Common.{◌≡◌, Bool, true, false, List, [], ◌∷◌, ◌++◌, Some, refl, sym, ap, subst, ◌∙◌}
use Rattle.std.proofs.lemmas.Option.{same_Some}
use Rattle.cilk_model.specs.Path.{Path, same_path, parent_of}
use Rattle.cilk_model.specs.Instance.{Delivery}
use Rattle.cilk_model.specs.Event.{Event}
use Rattle.cilk_model.specs.Fate.{lives, has_returned}
use Rattle.cilk_laws_model.proofs.Entries.{same-is, same-self, same-sym}
use Rattle.cilk_laws_model.proofs.Events.{told}
use Rattle.cilk_laws_model.proofs.Tales.{IsOf}

-- no delivery is of c
abbrev pub Lacks : Path → List Delivery → Type 0
Lacks c [] = Unit {0}
Lacks c (d ∷ ds) = (same_path c d.child ≡ false) × Lacks c ds

-- the deliveries that wait at q
abbrev pub Sound : List Event → Path → List Delivery → Type 0
Sound events q [] = Unit {0}
Sound events q (d ∷ ds) = (parent_of d.child ≡ Some q) × (told events d.child ≡ has_returned) × Lacks d.child ds × Sound events q ds

-- where the fates of all but c are as they were
pub sound_but : (events after : List Event) (c q : Path) (ds : List Delivery)
    → ((x : Path) → same_path c x ≡ false → told after x ≡ told events x) → Lacks c ds → Sound events q ds → Sound after q ds
sound_but events after c q [] same lacks h = tt
sound_but events after c q (d ∷ ds) same lacks h =
    (h.0, same d.child lacks.0 ∙ h.1, h.2, sound_but events after c q ds same lacks.1 h.3)

pub sound_same : (events after : List Event) (q : Path) (ds : List Delivery) → ((x : Path) → told after x ≡ told events x)
    → Sound events q ds → Sound after q ds
sound_same events after q [] same h = tt
sound_same events after q (d ∷ ds) same h = (h.0, same d.child ∙ h.1, h.2, sound_same events after q ds same h.3)

differs : (c x : Path) (b : Bool) → same_path c x ≡ b → (c ≡ x → ⊥) → b ≡ false
differs c x true e h = absurd (h (same-is c x e))
differs c x false e h = refl

pub apart : (c x : Path) → (c ≡ x → ⊥) → same_path c x ≡ false
apart c x h = differs c x (same_path c x) refl h

-- one that lives brings none that waits
pub lacks_living : (events : List Event) (c q : Path) (ds : List Delivery) → told events c ≡ lives → Sound events q ds → Lacks c ds
lacks_living events c q [] alive h = tt
lacks_living events c q (d ∷ ds) alive h =
    (apart c d.child (λ e. let both : lives ≡ has_returned = sym alive ∙ ap (told events) e ∙ h.1 in cc), lacks_living events c q ds alive h.3)

-- the child of another instance waits elsewhere
pub lacks_foreign : (events : List Event) (c p q : Path) (ds : List Delivery) → parent_of c ≡ Some p → same_path q p ≡ false → Sound events q ds → Lacks c ds
lacks_foreign events c p q [] parent other h = tt
lacks_foreign events c p q (d ∷ ds) parent other h = (
  apart c d.child (λ e.
      let same : p ≡ q = same_Some p q (sym parent ∙ ap parent_of e ∙ h.0) in
      let both : true ≡ false = sym (same-self q) ∙ ap (same_path q) (sym same) ∙ other in
      cc),
  lacks_foreign events c p q ds parent other h.3,
)

-- where one more is brought
brought_last : (c : Path) (ds : List Delivery) (d : Delivery) → Lacks c ds → same_path c d.child ≡ false → Lacks c (ds ++ d ∷ [])
brought_last c [] d h other = (other, tt)
brought_last c (x ∷ ds) d h other = (h.0, brought_last c ds d h.1 other)

sound_last : (events : List Event) (q : Path) (ds : List Delivery) (d : Delivery) → Sound events q ds → Lacks d.child ds
    → parent_of d.child ≡ Some q → told events d.child ≡ has_returned → Sound events q (ds ++ d ∷ [])
sound_last events q [] d h lacks parent fate = (parent, fate, tt, tt)
sound_last events q (x ∷ ds) d h lacks parent fate = (
  h.0,
  h.1,
  brought_last x.child ds d h.2 (same-sym x.child d.child ∙ lacks.0),
  sound_last events q ds d h.3 lacks.1 parent fate,
)

append_none : (ds : List Delivery) → ds ++ [] ≡ ds
append_none [] = refl
append_none (d ∷ ds) = ap (λ xs. d ∷ xs) (append_none ds)

pub sound_brought : (events : List Event) (p q : Path) (ds new : List Delivery) → IsOf p new → Sound events q ds → Lacks p ds
    → parent_of p ≡ Some q → told events p ≡ has_returned → Sound events q (ds ++ new)
sound_brought events p q ds [] own h lacks parent fate =
    subst (Sound events q) (sym (append_none ds)) h
sound_brought events p q ds (d ∷ []) own h lacks parent fate =
    sound_last events q ds d h (lacks_is p d.child ds (sym own) lacks) (ap parent_of own ∙ parent) (ap (told events) own ∙ fate)
  where
    lacks_is : (p c : Path) (ds : List Delivery) → p ≡ c → Lacks p ds → Lacks c ds
    lacks_is p c [] e h = tt
    lacks_is p c (x ∷ ds) e h = (ap (λ y. same_path y x.child) (sym e) ∙ h.0, lacks_is p c ds e h.1)
sound_brought events p q ds (d ∷ e ∷ new) own h lacks parent fate = absurd own
