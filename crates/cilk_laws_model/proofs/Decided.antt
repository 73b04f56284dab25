-- Numbers, cells, paths and lists are the same or not.
use Rattle.std.proofs.Common.{◌≡◌, ℕ, zero, suc, ◌⊎◌, inl, inr, Bool, true, false, List, [], ◌∷◌, refl, sym, ap, ap₂, ◌∙◌, Option, Some, None}
use Rattle.cilk_model.specs.labelled.Labelled.{Declaration, local, outer, global, of_lock, of_body, unknown}
use Rattle.cilk_model.specs.Values.{Cell}
use Rattle.cilk_model.specs.Path.{Path, same_path}
use Rattle.cilk_model.specs.State.{Lock, unset, free, held}
use Rattle.cilk_laws_model.proofs.Entries.{same-is, same-self}

abbrev pub Decided : Type 0 → Type 0
Decided A = A ⊎ (A → ⊥)

pub number_decided : (m n : ℕ) → Decided (m ≡ n)
number_decided zero zero = inl refl
number_decided zero (suc n) = inr (λ e. cc)
number_decided (suc m) zero = inr (λ e. cc)
number_decided (suc m) (suc n) = elim (number_decided m n) [ inl e ↦ inl (ap suc e) | inr h ↦ inr (λ e. h (cc)) ]

abbrev pub at : Declaration → ℕ → Cell
at d k = record { place = d; index = k }

place_decided : (d e : Declaration) → Decided (d ≡ e)
place_decided (local m) (local n) = elim (number_decided m n) [ inl e ↦ inl (ap local e) | inr h ↦ inr (λ e. h (cc)) ]
place_decided (local m) e = inr (λ f. cc)
place_decided (outer m) (outer n) = elim (number_decided m n) [ inl e ↦ inl (ap outer e) | inr h ↦ inr (λ e. h (cc)) ]
place_decided (outer m) e = inr (λ f. cc)
place_decided (global m) (global n) = elim (number_decided m n) [ inl e ↦ inl (ap global e) | inr h ↦ inr (λ e. h (cc)) ]
place_decided (global m) e = inr (λ f. cc)
place_decided (of_lock m) (of_lock n) = elim (number_decided m n) [ inl e ↦ inl (ap of_lock e) | inr h ↦ inr (λ e. h (cc)) ]
place_decided (of_lock m) e = inr (λ f. cc)
place_decided (of_body m) (of_body n) = elim (number_decided m n) [ inl e ↦ inl (ap of_body e) | inr h ↦ inr (λ e. h (cc)) ]
place_decided (of_body m) e = inr (λ f. cc)
place_decided unknown unknown = inl refl
place_decided unknown e = inr (λ f. cc)

cell_by : (d e : Declaration) (k l : ℕ) → Decided (d ≡ e) → Decided (k ≡ l) → Decided (at d k ≡ at e l)
cell_by d e k l (inl f) (inl g) = inl (ap₂ at f g)
cell_by d e k l (inr h) g = inr (λ f. h (ap (λ (c : Cell). c.place) f))
cell_by d e k l (inl f) (inr h) = inr (λ g. h (ap (λ (c : Cell). c.index) g))

pub cell_decided : (c d : Cell) → Decided (c ≡ d)
cell_decided c d = cell_by c.place d.place c.index d.index (place_decided c.place d.place) (number_decided c.index d.index)

path_by : (p q : Path) (b : Bool) → same_path p q ≡ b → Decided (p ≡ q)
path_by p q true e = inl (same-is p q e)
path_by p q false e = inr (λ h. let both : true ≡ false = sym (ap (λ x. same_path x q) h ∙ same-self q) ∙ e in cc)

pub path_decided : (p q : Path) → Decided (p ≡ q)
path_decided p q = path_by p q (same_path p q) refl

pub lock_decided : (p : Path) (o : Option Lock) → Decided (o ≡ Some (held p))
lock_decided p None = inr (λ e. cc)
lock_decided p (Some unset) = inr (λ e. cc)
lock_decided p (Some free) = inr (λ e. cc)
lock_decided p (Some (held q)) = elim (path_decided q p) [ inl e ↦ inl (ap (λ x. Some (held x)) e) | inr h ↦ inr (λ e. h (cc)) ]

pub empty_decided : {A : Type 0} (xs : List A) → Decided (xs ≡ [])
empty_decided [] = inl refl
empty_decided (x ∷ xs) = inr (λ e. cc)
