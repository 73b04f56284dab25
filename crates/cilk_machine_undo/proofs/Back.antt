-- What stood in places of a list is put there again.
use Rattle.std.proofs.Common.{◌≡◌, ◌≢◌, ◌<◌, ◌⊎◌, inl, inr, ℕ, zero, suc, Bool, true, false, cond, List, [], ◌∷◌, ◌++◌, length, refl, sym, ap, ◌∙◌}
use Rattle.std.proofs.Common.{subst, arith, slice_set, length-set, ext_get_or}
use Rattle.std.specs.Prelude.{slice_index_or}
use Rattle.cilk_machine_plan.proofs.spawn_laws.Lists.{at_set, those, those_more}
use Rattle.cilk_machine_undo.specs.Writes.{all_set}

-- g makes of what stands there now what stood there; d stands where there is nothing
abbrev pub back_at : {A : Type 0} → A → List A → ℕ → (A → A) → List A
back_at d xs k g = slice_set xs k (g (slice_index_or xs k d))

pub came_back : {A : Type 0} (d : A) (xs : List A) (k : ℕ) (x : A) (g : A → A) → g x ≡ slice_index_or xs k d → back_at d (slice_set xs k x) k g ≡ xs
came_back d [] k x g e = refl
came_back d (y ∷ xs) zero x g e = λ i. e i ∷ xs
came_back d (y ∷ xs) (suc k) x g e = λ i. y ∷ came_back d xs k x g e i

-- changes in two places, or of two parts of what stands in one
pub changes_swap : {A : Type 0} (d : A) (xs : List A) (j k : ℕ) (f g : A → A) → ((x : A) → g (f x) ≡ f (g x))
    → back_at d (back_at d xs j f) k g ≡ back_at d (back_at d xs k g) j f
changes_swap d [] j k f g same = refl
changes_swap d (x ∷ xs) zero zero f g same = λ i. same x i ∷ xs
changes_swap d (x ∷ xs) zero (suc k) f g same = refl
changes_swap d (x ∷ xs) (suc j) zero f g same = refl
changes_swap d (x ∷ xs) (suc j) (suc k) f g same = λ i. x ∷ changes_swap d xs j k f g same i

-- the same in several places
abbrev pub back_all : {A : Type 0} → A → (A → A) → List ℕ → List A → List A
back_all d g [] xs = xs
back_all d g (k ∷ ks) xs = back_all d g ks (back_at d xs k g)

pub all_set-is : {A : Type 0} (d x : A) (ks : List ℕ) (xs : List A) → all_set xs ks x ≡ back_all d (λ _. x) ks xs
all_set-is d x [] xs = refl
all_set-is d x (k ∷ ks) xs = all_set-is d x ks (slice_set xs k x)

pub all_set_more : {A : Type 0} (xs : List A) (ks : List ℕ) (k : ℕ) (x : A) → all_set xs (ks ++ k ∷ []) x ≡ slice_set (all_set xs ks x) k x
all_set_more xs [] k x = refl
all_set_more xs (j ∷ ks) k x = all_set_more (slice_set xs j x) ks k x

-- i is one of these
abbrev pub IsIn : ℕ → List ℕ → Type 0
IsIn i [] = ⊥
IsIn i (k ∷ ks) = (i ≡ k) ⊎ IsIn i ks

-- x is what stood there, or is made that by g
abbrev pub Comes : {A : Type 0} → (A → A) → List ℕ → ℕ → A → A → Type 0
Comes g ks i x was = (x ≡ was) ⊎ (IsIn i ks × (g x ≡ was))

came_here : {A : Type 0} (d : A) (g : A → A) (k : ℕ) (ks : List ℕ) (ys xs : List A) (i : ℕ) → i ≡ k → g (slice_index_or xs k d) ≡ slice_index_or xs k d
    → Comes g (k ∷ ks) i (slice_index_or ys i d) (slice_index_or xs i d) → g (slice_index_or ys k d) ≡ slice_index_or xs i d
came_here d g k ks ys xs i e fixed (inl same) =
    ap (λ j. g (slice_index_or ys j d)) (sym e) ∙ ap g same ∙ ap (λ j. g (slice_index_or xs j d)) e ∙ fixed ∙ ap (λ j. slice_index_or xs j d) (sym e)
came_here d g k ks ys xs i e fixed (inr came) = ap (λ j. g (slice_index_or ys j d)) (sym e) ∙ came.1

is_further : (i k : ℕ) (ks : List ℕ) → i ≢ k → IsIn i (k ∷ ks) → IsIn i ks
is_further i k ks apart (inl e) = absurd (apart e)
is_further i k ks apart (inr h) = h

stays_there : {A : Type 0} (g : A → A) (k : ℕ) (ks : List ℕ) (i : ℕ) (y now was : A) → i ≢ k → now ≡ y → Comes g (k ∷ ks) i y was → Comes g ks i now was
stays_there g k ks i y now was apart e (inl same) = inl (e ∙ same)
stays_there g k ks i y now was apart e (inr came) = inr (is_further i k ks apart came.0, ap g e ∙ came.1)

pub all_back : {A : Type 0} (d : A) (g : A → A) (ks : List ℕ) (ys xs : List A) → length ys ≡ length xs
    → ((i : ℕ) → IsIn i ks → (i < length xs) × (g (slice_index_or xs i d) ≡ slice_index_or xs i d))
    → ((i : ℕ) → i < length xs → Comes g ks i (slice_index_or ys i d) (slice_index_or xs i d))
    → back_all d g ks ys ≡ xs
all_back d g [] ys xs size fixed comes =
    ext_get_or d ys xs size (λ i h. elim (comes i (subst (λ n. i < n) size h)) [ inl e ↦ e | inr e ↦ absurd e.0 ])
all_back {A} d g (k ∷ ks) ys xs size fixed comes =
    let here = fixed k (inl refl) in
    let there : k < length ys = subst (λ n. k < n) (sym size) here.0 in
    let now : List A = back_at d ys k g in
    all_back d g ks now xs (length-set ys k (g (slice_index_or ys k d)) ∙ size) (λ i h. fixed i (inr h))
    (λ i h. elim (at_set ys k (g (slice_index_or ys k d)) i d there) [
      | inl e ↦ inl (e.1 ∙ came_here d g k ks ys xs i e.0 here.1 (comes i h))
      | inr e ↦ stays_there g k ks i (slice_index_or ys i d) (slice_index_or now i d) (slice_index_or xs i d) e.0 e.1 (comes i h)
    ])

in_front : (i : ℕ) (xs ys : List ℕ) → IsIn i xs → IsIn i (xs ++ ys)
in_front i [] ys h = absurd h
in_front i (x ∷ xs) ys (inl e) = inl e
in_front i (x ∷ xs) ys (inr h) = inr (in_front i xs ys h)

behind : (i : ℕ) (xs ys : List ℕ) → IsIn i ys → IsIn i (xs ++ ys)
behind i [] ys h = h
behind i (x ∷ xs) ys h = inr (behind i xs ys h)

one_in : (n : ℕ) (b : Bool) → b ≡ true → IsIn n (cond b (n ∷ []) [])
one_in n true e = inl refl
one_in n false e = cc

at_last : (i n : ℕ) → i < suc n → (i < n) ⊎ (i ≡ n)
at_last zero zero h = inr refl
at_last zero (suc n) h = inl (omega arith)
at_last (suc i) zero h = absurd (omega arith)
at_last (suc i) (suc n) h = elim (at_last i n (omega arith)) [ inl l ↦ inl (omega arith) | inr e ↦ inr (ap suc e) ]

-- the numbers below n that pass a test are those
pub is_in : (p : ℕ → Bool) (n i : ℕ) → i < n → p i ≡ true → IsIn i (those p n)
is_in p zero i h e = absurd (omega arith)
is_in p (suc n) i h e =
    subst (IsIn i) (sym (those_more p n))
    (elim (at_last i n h) [
      | inl l ↦ in_front i (those p n) (cond (p n) (n ∷ []) []) (is_in p n i l e)
      | inr same ↦ behind i (those p n) (cond (p n) (n ∷ []) [])
          (subst (λ (j : ℕ). IsIn j (cond (p n) (n ∷ []) [])) (sym same) (one_in n (p n) (ap p (sym same) ∙ e)))
    ])

from_either : (i : ℕ) (xs ys : List ℕ) → IsIn i (xs ++ ys) → IsIn i xs ⊎ IsIn i ys
from_either i [] ys h = inr h
from_either i (x ∷ xs) ys (inl e) = inl (inl e)
from_either i (x ∷ xs) ys (inr h) = elim (from_either i xs ys h) [ inl l ↦ inl (inr l) | inr r ↦ inr r ]

from_one : (i n : ℕ) (b : Bool) → IsIn i (cond b (n ∷ []) []) → (i ≡ n) × (b ≡ true)
from_one i n true (inl e) = (e, refl)
from_one i n true (inr h) = absurd h
from_one i n false h = absurd h

pub passes : (p : ℕ → Bool) (n i : ℕ) → IsIn i (those p n) → (i < n) × (p i ≡ true)
passes p zero i h = absurd h
passes p (suc n) i h =
    elim (from_either i (those p n) (cond (p n) (n ∷ []) []) (subst (IsIn i) (those_more p n) h)) [
      | inl l ↦ let r = passes p n i l in (omega (arith, r.0), r.1)
      | inr one ↦ let r = from_one i n (p n) one in (omega (arith, r.0), ap p r.0 ∙ r.1)
    ]
