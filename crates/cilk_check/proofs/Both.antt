-- The first of the faults of two kinds.
use Rattle.std.proofs.Common.{◌≡◌, [], ◌∷◌, Option, Some, None, ◌⊎◌, inl, inr, refl, sym, subst, IfSome, IfNone}
use Rattle.cilk_check.specs.scopes.declared.fault.CheckFault.{CheckFault}
use Rattle.cilk_check.specs.scopes.Fault.{NoLater, IsFirst}
use Rattle.cilk_check.specs.scopes.First.{first_among, earlier}
use Rattle.cilk_check.proofs.scopes_laws.Held.{NoLater-trans, first_among_first}

module _ (N M : CheckFault → Type 0) where
  abbrev Either : CheckFault → Type 0
  Either f = N f ⊎ M f

  names_alone : (g r : CheckFault) → IsFirst N g → ((f : CheckFault) → ¬ M f) → g ≡ r → IsFirst Either r
  names_alone g r first none e =
      subst (IsFirst Either) e
      (record {
        is_told = inl first.is_told;
        is_first = λ f h. elim h as (λ _. NoLater g f)
            [ inl k ↦ first.is_first f k | inr k ↦ absurd (none f k) ];
      })

  forms_alone : (g r : CheckFault) → IsFirst M g → ((f : CheckFault) → ¬ N f) → g ≡ r → IsFirst Either r
  forms_alone g r first none e =
      subst (IsFirst Either) e
      (record {
        is_told = inr first.is_told;
        is_first = λ f h. elim h as (λ _. NoLater g f)
            [ inl k ↦ absurd (none f k) | inr k ↦ first.is_first f k ];
      })

  of_both : (g k r : CheckFault) → IsFirst N g → IsFirst M k → first_among (Some g) (k ∷ []) ≡ Some r → IsFirst Either r
  of_both g k r a b e =
      let first = first_among_first g (k ∷ []) r e in
      record {
        is_told = elim first.is_one as (λ _. Either r) [
          | inl same ↦ inl (subst N same a.is_told)
          | inr h ↦ elim h as (λ _. Either r) [ inl same ↦ inr (subst M same b.is_told) | inr none ↦ absurd none ]
        ];
        is_first = λ f h. elim h as (λ _. NoLater r f) [
          | inl told ↦ NoLater-trans r g f first.before_first (a.is_first f told)
          | inr told ↦ NoLater-trans r k f (first.before_others k (inl refl)) (b.is_first f told)
        ];
      }

  both_first : (n m : Option CheckFault) (r : CheckFault) → IfNone n ((f : CheckFault) → ¬ N f) → IfSome n (IsFirst N)
      → IfNone m ((f : CheckFault) → ¬ M f) → IfSome m (IsFirst M) → earlier n m ≡ Some r → IsFirst Either r
  both_first None None r a x b y e = cc
  both_first (Some g) None r a x b y e = let same : g ≡ r = cc in names_alone g r x b same
  both_first None (Some k) r a x b y e = let same : k ≡ r = cc in forms_alone k r y a same
  both_first (Some g) (Some k) r a x b y e = of_both g k r x y e

  pub both_told : (n m o : Option CheckFault) → IfNone n ((f : CheckFault) → ¬ N f) → IfSome n (IsFirst N) → IfNone m ((f : CheckFault) → ¬ M f)
      → IfSome m (IsFirst M) → o ≡ earlier n m → IfSome o (IsFirst Either)
  both_told n m None a x b y e = tt
  both_told n m (Some r) a x b y e = both_first n m r a x b y (sym e)
