-- Instances by place and by path.
use Rattle.std.proofs.Common.{◌≡◌, ◌<◌, ◌≤◌, ◌⊎◌, ℕ, Bool, false, nat_eq, if◌then◌else◌, Option, Some, None}
use Rattle.std.proofs.Common.{option_map}
use Rattle.std.proofs.Common.{refl, sym, ap, ◌∙◌, subst, inl, inr}
use Rattle.std.proofs.lemmas.Bool.{cases_eq, cases_lt, eq-eqb, ne_eqb, lt-ltb, le-ltb, false_from_ne_true}
use Rattle.cilk_log_replay.specs.machine.model.Path.{Path, same_path, is_that}
use Rattle.cilk_log_replay.proofs.machine_laws.spawn_laws.Paths.{same_is, same_self}
use Rattle.cilk_races.specs.Motions.{place_among}
use Rattle.cilk_races.specs.CellsKept.{Named, IsThere}

-- whether that is the place
abbrev pub hits : Option ℕ → ℕ → Bool
hits None i = false
hits (Some j) i = nat_eq i j

pub place-within : (count i : ℕ) → 0 < count → place_among count i < count
place-within count i some = by (cases_lt i count)
  where
    by : (i < count) ⊎ (count ≤ i) → place_among count i < count
    by (inl low) = subst (λ (b : Bool). (if b then i else 0) < count) (sym (lt-ltb i count low)) low
    by (inr high) = subst (λ (b : Bool). (if b then i else 0) < count) (sym (le-ltb i count high)) some

module _ (up : ℕ → Path) (count : ℕ) (named : Named up count) where
  pub place-path : (i : ℕ) → up (place_among count i) ≡ up i
  place-path i = by (cases_lt i count)
    where
      by : (i < count) ⊎ (count ≤ i) → up (place_among count i) ≡ up i
      by (inl low) = ap (λ (b : Bool). up (if b then i else 0)) (lt-ltb i count low)
      by (inr high) = ap (λ (b : Bool). up (if b then i else 0)) (le-ltb i count high) ∙ named.root ∙ sym (named.past i high)

  pub same-place : (i j : ℕ) → i < count → j < count → same_path (up i) (up j) ≡ nat_eq i j
  same-place i j h g = by (cases_eq i j)
    where
      by : (i ≡ j) ⊎ (i ≡ j → ⊥) → same_path (up i) (up j) ≡ nat_eq i j
      by (inl e) = same_self (up i) (up j) (ap up e) ∙ sym (eq-eqb i j e)
      by (inr ne) = false_from_ne_true (same_path (up i) (up j)) (λ e. ne (named.apart i j h g (same_is (up i) (up j) e))) ∙ sym (ne_eqb i j ne)

  pub other-place : (i j : ℕ) → i < count → j < count → same_path (up j) (up i) ≡ nat_eq i j
  other-place i j h g = by (cases_eq i j)
    where
      by : (i ≡ j) ⊎ (i ≡ j → ⊥) → same_path (up j) (up i) ≡ nat_eq i j
      by (inl e) = same_self (up j) (up i) (ap up (sym e)) ∙ sym (eq-eqb i j e)
      by (inr ne) =
          false_from_ne_true (same_path (up j) (up i)) (λ e. ne (sym (named.apart j i g h (same_is (up j) (up i) e)))) ∙ sym (ne_eqb i j ne)

  pub that-place : (o : Option ℕ) (i : ℕ) → IsThere count o → i < count → is_that (up i) (option_map up o) ≡ hits o i
  that-place None i there h = refl
  that-place (Some j) i there h = same-place i j h there
