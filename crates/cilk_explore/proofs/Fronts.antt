-- Elements of two lists one behind the other, and of one in which one is put in place of another.
use Rattle.std.proofs.Common.{◌≡◌, ◌≢◌, ◌<◌, ◌+◌, ◌⊎◌, inl, inr, ℕ, zero, suc, List, [], ◌∷◌, ◌++◌, length, Option, Some}
use Rattle.std.proofs.Common.{refl, sym, ap, ◌∙◌}
use Rattle.std.proofs.Common.{arith, set, slice_get, take}

pub get-front : {A : Type 0} (xs ys : List A) (k : ℕ) (x : A) → slice_get xs k ≡ Some x → slice_get (xs ++ ys) k ≡ Some x
get-front [] ys k x h = cc
get-front (z ∷ xs) ys zero x h = h
get-front (z ∷ xs) ys (suc k) x h = get-front xs ys k x h

pub record Behind {A : Type 0} (xs ys : List A) (k : ℕ) (x : A) : Type 0 where
  pub place : ℕ
  pub is : k ≡ length xs + place
  pub there : slice_get ys place ≡ Some x

pub get-cases : {A : Type 0} (xs ys : List A) (k : ℕ) (x : A) → slice_get (xs ++ ys) k ≡ Some x → (slice_get xs k ≡ Some x) ⊎ Behind xs ys k x
get-cases [] ys k x h = inr (record { place = k; is = omega arith; there = h })
get-cases (z ∷ xs) ys zero x h = inl h
get-cases (z ∷ xs) ys (suc k) x h = elim (get-cases xs ys k x h) [
  | inl a ↦ inl a
  | inr b ↦ inr (record { place = b.place; is = let e = b.is in omega (arith, e); there = b.there })
]

pub get-last : {A : Type 0} (xs : List A) (x : A) → slice_get (xs ++ x ∷ []) (length xs) ≡ Some x
get-last [] x = refl
get-last (z ∷ xs) x = get-last xs x

-- one element is put in place of another: at each place that is there, or what was
pub set-cases : {A : Type 0} (xs : List A) (i : ℕ) (y : A) (k : ℕ) (x : A) → slice_get xs k ≡ Some x
    → ((k ≡ i) × (slice_get (set xs i y) k ≡ Some y)) ⊎ (slice_get (set xs i y) k ≡ Some x)
set-cases [] i y k x h = cc
set-cases (z ∷ xs) zero y zero x h = inl (refl, refl)
set-cases (z ∷ xs) zero y (suc k) x h = inr h
set-cases (z ∷ xs) (suc i) y zero x h = inr h
set-cases (z ∷ xs) (suc i) y (suc k) x h = elim (set-cases xs i y k x h) [ inl put ↦ inl (ap suc put.0, put.1) | inr old ↦ inr old ]

pub set-there : {A : Type 0} (xs : List A) (i : ℕ) (y x : A) → slice_get xs i ≡ Some x → slice_get (set xs i y) i ≡ Some y
set-there [] i y x h = cc
set-there (z ∷ xs) zero y x h = refl
set-there (z ∷ xs) (suc i) y x h = set-there xs i y x h

pub set-apart : {A : Type 0} (xs : List A) (i : ℕ) (y : A) (k : ℕ) (x : A) → slice_get xs k ≡ Some x → k ≢ i → slice_get (set xs i y) k ≡ Some x
set-apart xs i y k x h other = elim (set-cases xs i y k x h) [ inl put ↦ absurd (other put.0) | inr old ↦ old ]

pub set-split : {A : Type 0} (xs : List A) (i : ℕ) (y : A) (k : ℕ) (x : A) → slice_get (set xs i y) k ≡ Some x
    → ((k ≡ i) × (x ≡ y)) ⊎ (slice_get xs k ≡ Some x)
set-split [] i y k x h = cc
set-split (z ∷ xs) zero y zero x h = inl (refl, cc)
set-split (z ∷ xs) zero y (suc k) x h = inr h
set-split (z ∷ xs) (suc i) y zero x h = inr h
set-split (z ∷ xs) (suc i) y (suc k) x h = elim (set-split xs i y k x h) [ inl put ↦ inl (ap suc put.0, put.1) | inr old ↦ inr old ]

pub append-none : {A : Type 0} (xs : List A) → xs ++ [] ≡ xs
append-none [] = refl
append-none (x ∷ xs) = ap (λ zs. x ∷ zs) (append-none xs)

-- what stands at a place of one element is that element
pub one-there : {A : Type 0} (x y : A) (k : ℕ) → slice_get (x ∷ []) k ≡ Some y → (k ≡ 0) × (x ≡ y)
one-there x y zero h = (refl, cc)
one-there x y (suc k) h = cc

pub one-entry : {A : Type 0} (o : Option A) (x y : A) → o ≡ Some x → o ≡ Some y → x ≡ y
one-entry o x y e h = let both : Some x ≡ Some y = sym e ∙ h in cc

pub some-there : {A : Type 0} (xs : List A) (k : ℕ) → k < length xs → (x : A) × (slice_get xs k ≡ Some x)
some-there [] k lt = absurd (omega (arith, lt))
some-there (x ∷ xs) zero lt = (x, refl)
some-there (x ∷ xs) (suc k) lt = some-there xs k (omega (arith, lt))

pub take-fewer : {A : Type 0} (xs : List A) (k : ℕ) → take k (take (suc k) xs) ≡ take k xs
take-fewer [] zero = refl
take-fewer [] (suc k) = refl
take-fewer (x ∷ xs) zero = refl
take-fewer (x ∷ xs) (suc k) = ap (λ zs. x ∷ zs) (take-fewer xs k)
