-- Which of the faults of a list is the first.
use Rattle.std.proofs.Common.{◌≡◌, ◌≢◌, Bool, true, false, cond, List, [], ◌∷◌, Some, None, ◌⊎◌, inl, inr, refl, subst, ◌∙◌, arith}
use Rattle.std.proofs.lemmas.Bool.Decides.{nat_tests}
use Rattle.cilk_check_scopes.specs.declared.fault.CheckFault.{CheckFault}
use Rattle.cilk_check_scopes.specs.Fault.{NoLater}
use Rattle.cilk_check_scopes.specs.First.{is_before, first_of, first_among, fault_if}
use Rattle.cilk_check_scopes.proofs.Elements.{Has}

-- the one fault, and why it is there
pub Has-fault_if_cases : (there : Bool) (g f : CheckFault) → Has (fault_if there g) f → (there ≡ true) × (g ≡ f)
Has-fault_if_cases true g f (inl e) = (refl, e)
Has-fault_if_cases true g f (inr h) = absurd h
Has-fault_if_cases false g f h = absurd h

pub Has-fault_if : (there : Bool) (g : CheckFault) → there ≡ true → Has (fault_if there g) g
Has-fault_if true g e = inl refl
Has-fault_if false g e = cc

-- r is a fault of the list or a, and none of them stands before it
pub record IsFirstOf (a : CheckFault) (fs : List CheckFault) (r : CheckFault) : Type 0 where
  pub is_one : (a ≡ r) ⊎ Has fs r
  pub before_first : NoLater r a
  pub before_others : (g : CheckFault) → Has fs g → NoLater r g

pub NoLater-trans : (f g h : CheckFault) → NoLater f g → NoLater g h → NoLater f h
NoLater-trans f g h a b = grind arith

first_of_cases : (a f : CheckFault) (b : Bool) → is_before f a ≡ b → NoLater (cond b f a) a × NoLater (cond b f a) f
first_of_cases a f true e = (grind (arith, nat_tests), (omega arith, λ _. omega arith))
first_of_cases a f false e = ((omega arith, λ _. omega arith), grind (arith, nat_tests))

first_of_one : (a f : CheckFault) (b : Bool) → (a ≡ cond b f a) ⊎ (f ≡ cond b f a)
first_of_one a f true = inr refl
first_of_one a f false = inl refl

pub first_among_first : (a : CheckFault) (fs : List CheckFault) (r : CheckFault) → first_among (Some a) fs ≡ Some r → IsFirstOf a fs r
first_among_first a [] r e =
    let same : a ≡ r = cc in
    record { is_one = inl same; before_first = subst (λ x. NoLater x a) same (omega arith, λ _. omega arith); before_others = λ g h. absurd h }
first_among_first a (f ∷ fs) r e =
    let b = is_before f a in
    let rest = first_among_first (cond b f a) fs r e in
    let sooner = first_of_cases a f b refl in
    let before_f = NoLater-trans r _ f rest.before_first sooner.1 in
    record {
      is_one = elim rest.is_one [ inl k ↦ elim (first_of_one a f b) [ inl m ↦ inl (m ∙ k) | inr m ↦ inr (inl (m ∙ k)) ] | inr k ↦ inr (inr k) ];
      before_first = NoLater-trans r _ a rest.before_first sooner.0;
      before_others = λ g. λ h. elim h as (λ _. NoLater r g) [ inl m ↦ subst (λ x. NoLater r x) m before_f | inr k ↦ rest.before_others g k ];
    }

some_is_first : (a : CheckFault) (fs : List CheckFault) → first_among (Some a) fs ≢ None
some_is_first a [] e = cc
some_is_first a (f ∷ fs) e = some_is_first (first_of (Some a) f) fs e

-- no fault is the first among none at all
pub first_among_none : (fs : List CheckFault) (f : CheckFault) → first_among None fs ≡ None → ¬ Has fs f
first_among_none [] f e h = h
first_among_none (g ∷ fs) f e h = some_is_first g fs e

-- the first among faults is one of them, and none of them stands before it
pub first_among_some : (fs : List CheckFault) (r : CheckFault) → first_among None fs ≡ Some r → Has fs r × ((g : CheckFault) → Has fs g → NoLater r g)
first_among_some [] r e = cc
first_among_some (f ∷ fs) r e =
    let first = first_among_first f fs r e in
    (first.is_one, λ g h. elim h as (λ _. NoLater r g) [ inl m ↦ subst (λ x. NoLater r x) m first.before_first | inr k ↦ first.before_others g k ])
