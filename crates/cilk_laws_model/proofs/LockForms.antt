-- Who holds a lock.
use Rattle.std.proofs.Common.{◌≡◌, ◌≢◌, ℕ, zero, suc, Bool, true, false, ◌||◌, List, [], ◌∷◌, Option, Some, None, refl, sym, ap, ◌∙◌, if◌then◌else◌}
use Rattle.std.specs.Prelude.{option_map, slice_get}
use Rattle.std.specs.List.{list_any}
use Rattle.std.proofs.lemmas.Bool.{false_from_ne_true, or_left, or_parts, or_right, true≢false}
use Rattle.cilk_model.specs.Path.{Path, same_path}
use Rattle.cilk_model.specs.State.{Lock, unset, free, held, State}
use Rattle.cilk_model.specs.Change.{is_held_by, holds_lock, released}
use Rattle.cilk_model.specs.Written.{Lets, Holds, HoldsNone}
use Rattle.cilk_laws_model.proofs.Entries.{same-is, same-self}

pub held-is : (p : Path) (lock : Lock) → is_held_by p lock ≡ true → lock ≡ held p
held-is p unset h = cc
held-is p free h = cc
held-is p (held q) h = ap held (same-is q p h)

one_held_by : (p : Path) (lock : Lock) (locks : List Lock) (b : Bool) → is_held_by p lock ≡ b → (b || list_any (is_held_by p) locks) ≡ true
    → (list_any (is_held_by p) locks ≡ true → (k : ℕ) × (slice_get locks k ≡ Some (held p))) → (k : ℕ) × (slice_get (lock ∷ locks) k ≡ Some (held p))
one_held_by p lock locks true e h rest = (zero, ap Some (held-is p lock e))
one_held_by p lock locks false e h rest = let found = rest h in (suc found.0, found.1)

one_held : (p : Path) (locks : List Lock) → list_any (is_held_by p) locks ≡ true → (k : ℕ) × (slice_get locks k ≡ Some (held p))
one_held p [] h = cc
one_held p (lock ∷ locks) h = one_held_by p lock locks (is_held_by p lock) refl h (one_held p locks)

pub holds : (s : State) (p : Path) → holds_lock s p ≡ true → Holds s p
holds s p h = let found = one_held p s.locks h in record { lock = found.0; held = found.1 }

none_held : (p : Path) (locks : List Lock) → list_any (is_held_by p) locks ≡ false → (k : ℕ) → slice_get locks k ≢ Some (held p)
none_held p [] h k = λ e. cc
none_held p (lock ∷ locks) h zero = λ e.
    let is : lock ≡ held p = cc in
    true≢false (sym (ap (is_held_by p) is ∙ same-self p) ∙ (or_parts _ _ h).0)
none_held p (lock ∷ locks) h (suc k) = none_held p locks (or_parts _ _ h).1 k

pub holds_none : (s : State) (p : Path) → holds_lock s p ≡ false → HoldsNone s p
holds_none s p h = none_held p s.locks h

-- the other way round
seen_held : (p : Path) (locks : List Lock) (k : ℕ) → slice_get locks k ≡ Some (held p) → list_any (is_held_by p) locks ≡ true
seen_held p [] k e = cc
seen_held p (lock ∷ locks) zero e =
    let is : lock ≡ held p = cc in
    or_left _ _ (ap (is_held_by p) is ∙ same-self p)
seen_held p (lock ∷ locks) (suc k) e = or_right (is_held_by p lock) _ (seen_held p locks k e)

pub holds_seen : (s : State) (p : Path) → Holds s p → holds_lock s p ≡ true
holds_seen s p h = seen_held p s.locks h.lock h.held

pub none_seen : (s : State) (p : Path) → HoldsNone s p → holds_lock s p ≡ false
none_seen s p none = false_from_ne_true (holds_lock s p) (λ e. let one = holds s p e in none one.lock one.held)

-- what an end lets go
lets_if : (p q : Path) (b : Bool) → same_path q p ≡ b → Lets p (Some (held q)) (Some (if b then free else held q))
lets_if p q true e = record { own = λ h. refl; other = λ h. absurd (h (ap (λ (x : Path). Some (held x)) (same-is q p e))) }
lets_if p q false e = record {
  own = λ h. let is : q ≡ p = cc in let both : false ≡ true = sym e ∙ ap (λ x. same_path x p) is ∙ same-self p in cc;
  other = λ h. refl;
}

pub lets : (p : Path) (o : Option Lock) → Lets p o (option_map (released p) o)
lets p None = record { own = λ h. cc; other = λ h. refl }
lets p (Some unset) = record { own = λ h. cc; other = λ h. refl }
lets p (Some free) = record { own = λ h. cc; other = λ h. refl }
lets p (Some (held q)) = lets_if p q (same_path q p) refl
