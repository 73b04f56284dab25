-- Which labels of a `switch` say what an earlier one says.
use Rattle.std.proofs.Common.{◌≡◌, ℕ, zero, suc, ℤ, ◌<◌, Bool, true, false, cond, Option, Some, None, List, [], ◌∷◌, Decides, ◌⊎◌, inl, inr, refl}
use Rattle.std.proofs.Common.{slice_get, sym, ap, subst, ◌∙◌, arith}
use Rattle.std.specs.Cmp.{signed_Decides}
use Rattle.cilk_check_scopes.specs.syntax.Tree as tree
use Rattle.cilk_check_scopes.specs.declared.fault.CheckFault.{CheckFault}
use Rattle.cilk_check_scopes.specs.declared.fault.CheckFault.TheVariants.{Label}
use Rattle.cilk_check_scopes.specs.First.{fault_if}
use Rattle.cilk_check_scopes.proofs.Elements.{Has, Has-append_left, Has-append_right, Has-append_cases}
use Rattle.cilk_check_scopes.proofs.Held.{Has-fault_if, Has-fault_if_cases}
use Rattle.cilk_check.specs.FormFinds.{same_value, labels_faults, nothing_said}

same_value-Decides : (v w : Option ℤ) → Decides (same_value v w) (v ≡ w)
same_value-Decides None None = (λ e. refl, λ e. refl)
same_value-Decides None (Some y) = (λ e. cc, λ e. cc)
same_value-Decides (Some x) None = (λ e. cc, λ e. cc)
same_value-Decides (Some x) (Some y) = (λ e. ap Some ((signed_Decides x y).0 e), λ e. let same : x ≡ y = cc in (signed_Decides x y).1 same)

-- what is said, with one value more
abbrev with_value : (Option ℤ → Bool) → Option ℤ → Option ℤ → Bool
with_value said v w = cond (same_value v w) true (said w)

with_value_cases : (said : Option ℤ → Bool) (v w : Option ℤ) (b : Bool) → same_value v w ≡ b → cond b true (said w) ≡ true → (v ≡ w) ⊎ (said w ≡ true)
with_value_cases said v w true e h = inl ((same_value-Decides v w).0 e)
with_value_cases said v w false e h = inr h

value_is_said : (b c : Bool) → b ≡ true → cond b true c ≡ true
value_is_said true c e = refl
value_is_said false c e = cc

still_said : (b c : Bool) → c ≡ true → cond b true c ≡ true
still_said true c e = refl
still_said false c e = e

-- one of the labels says what is said before all of them, and its fault is this
record SaidBefore (said : Option ℤ → Bool) (ls : List tree.Label) (f : CheckFault) : Type 0 where
  k : ℕ
  second : tree.Label
  second_at : slice_get ls k ≡ Some second
  is_said : said second.value ≡ true
  is : Label second.at ≡ f

-- one of the labels says what an earlier one of them says, and its fault is this
pub record Repeated (ls : List tree.Label) (f : CheckFault) : Type 0 where
  pub i : ℕ
  pub k : ℕ
  pub first : tree.Label
  pub second : tree.Label
  pub first_at : slice_get ls i ≡ Some first
  pub second_at : slice_get ls k ≡ Some second
  pub before : i < k
  pub same : first.value ≡ second.value
  pub is : Label second.at ≡ f

one_more : (l : tree.Label) (ls : List tree.Label) (f : CheckFault) → Repeated ls f → Repeated (l ∷ ls) f
one_more l ls f r = record {
  i = suc r.i;
  k = suc r.k;
  first = r.first;
  second = r.second;
  first_at = r.first_at;
  second_at = r.second_at;
  before = omega (arith, r.before);
  same = r.same;
  is = r.is;
}

behind_first : (said : Option ℤ → Bool) (l : tree.Label) (ls : List tree.Label) (f : CheckFault) → SaidBefore (with_value said l.value) ls f
    → SaidBefore said (l ∷ ls) f ⊎ Repeated (l ∷ ls) f
behind_first said l ls f s =
    elim (with_value_cases said l.value s.second.value (same_value l.value s.second.value) refl s.is_said) [
      | inl e ↦ inr (record {
        i = 0;
        k = suc s.k;
        first = l;
        second = s.second;
        first_at = refl;
        second_at = s.second_at;
        before = omega arith;
        same = e;
        is = s.is;
      })
      | inr e ↦ inl (record { k = suc s.k; second = s.second; second_at = s.second_at; is_said = e; is = s.is })
    ]

found_label : (said : Option ℤ → Bool) (ls : List tree.Label) (f : CheckFault) → Has (labels_faults said ls) f → SaidBefore said ls f ⊎ Repeated ls f
found_label said [] f h = absurd h
found_label said (l ∷ ls) f h =
    elim (Has-append_cases (fault_if (said l.value) (Label l.at)) _ f h) [
      | inl k ↦
          let c = Has-fault_if_cases (said l.value) _ f k in
          inl (record { k = 0; second = l; second_at = refl; is_said = c.0; is = c.1 })
      | inr k ↦
          elim (found_label (with_value said l.value) ls f k) [
            | inl s ↦ behind_first said l ls f s
            | inr r ↦ inr (one_more l ls f r)
          ]
    ]

none_said : (ls : List tree.Label) (f : CheckFault) → SaidBefore nothing_said ls f → ⊥
none_said ls f s = let no : false ≡ true = s.is_said in cc

-- each listed fault is of a label that says what an earlier one says
pub repeated : (ls : List tree.Label) (f : CheckFault) → Has (labels_faults nothing_said ls) f → Repeated ls f
repeated ls f h =
    elim (found_label nothing_said ls f h) [ inl s ↦ absurd (none_said ls f s) | inr r ↦ r ]

said_has : (said : Option ℤ → Bool) (ls : List tree.Label) (k : ℕ) (second : tree.Label) → slice_get ls k ≡ Some second → said second.value ≡ true
    → Has (labels_faults said ls) (Label second.at)
said_has said [] k second at h = cc
said_has said (l ∷ ls) zero second at h =
    let same : l ≡ second = cc in
    Has-append_left (fault_if (said l.value) (Label l.at)) _ _
    (subst (λ x. Has (fault_if (said x.value) (Label x.at)) (Label second.at)) (sym same) (Has-fault_if (said second.value) (Label second.at) h))
said_has said (l ∷ ls) (suc k) second at h =
    Has-append_right (fault_if (said l.value) (Label l.at)) _ _
    (said_has (with_value said l.value) ls k second at (still_said (same_value l.value second.value) _ h))

repeated_in : (said : Option ℤ → Bool) (ls : List tree.Label) (i k : ℕ) (first second : tree.Label) → slice_get ls i ≡ Some first
    → slice_get ls k ≡ Some second → i < k → first.value ≡ second.value → Has (labels_faults said ls) (Label second.at)
repeated_in said [] i k first second at_i at_k before same = cc
repeated_in said (l ∷ ls) i zero first second at_i at_k before same = absurd (omega arith)
repeated_in said (l ∷ ls) zero (suc k) first second at_i at_k before same =
    let one : l ≡ first = cc in
    let says : l.value ≡ second.value = ap (λ x. x.value) one ∙ same in
    Has-append_right (fault_if (said l.value) (Label l.at)) _ _
    (said_has (with_value said l.value) ls k second at_k
    (value_is_said (same_value l.value second.value) _ ((same_value-Decides l.value second.value).1 says)))
repeated_in said (l ∷ ls) (suc i) (suc k) first second at_i at_k before same =
    Has-append_right (fault_if (said l.value) (Label l.at)) _ _
    (repeated_in (with_value said l.value) ls i k first second at_i at_k (omega (arith, before)) same)

-- the fault of a label that says what an earlier one says is listed
pub repeated_has : (ls : List tree.Label) (i k : ℕ) (first second : tree.Label) → slice_get ls i ≡ Some first → slice_get ls k ≡ Some second
    → i < k → first.value ≡ second.value → Has (labels_faults nothing_said ls) (Label second.at)
repeated_has ls i k first second at_i at_k before same = repeated_in nothing_said ls i k first second at_i at_k before same
