-- Lists that stand in others, and lists whose elements fit one another.
use Rattle.std.proofs.Common.{◌≡◌, ℕ, zero, suc, ◌+◌, ◌<◌, Bool, true, not, cond, nat_lt, List, [], ◌∷◌, ◌++◌, length, get_or, map, Some, None}
use Rattle.std.proofs.Common.{slice_get, find, position, refl, sym, ap, subst, ◌∙◌, arith}
use Rattle.std.specs.List.{position_or_len}
use Rattle.std.proofs.lemmas.List.Folds.{find_at}
use Rattle.std.proofs.lemmas.List.Quantifiers.{position-Some}
use Rattle.std.proofs.lemmas.Bool.Decides.{Decides-ltb}

-- these stand in a list from place n on
pub record StandAt {X : Type 0} (all : List X) (n : ℕ) (xs : List X) : Type 0 where
  pub at : (k : ℕ) (x : X) → slice_get xs k ≡ Some x → slice_get all (n + k) ≡ Some x

module _ {X : Type 0} where
  pub get_within : (xs : List X) (n : ℕ) (x : X) → slice_get xs n ≡ Some x → n < length xs
  get_within [] n x e = cc
  get_within (y ∷ xs) zero x e = omega arith
  get_within (y ∷ xs) (suc n) x e = omega (arith, get_within xs n x e)

  pub get_is : (xs : List X) (n : ℕ) (x d : X) → slice_get xs n ≡ Some x → get_or xs n d ≡ x
  get_is [] n x d e = cc
  get_is (y ∷ xs) zero x d e = cc
  get_is (y ∷ xs) (suc n) x d e = get_is xs n x d e

  pub get_there : (xs : List X) (n : ℕ) (d : X) → n < length xs → slice_get xs n ≡ Some (get_or xs n d)
  get_there [] n d h = absurd (omega arith)
  get_there (y ∷ xs) zero d h = refl
  get_there (y ∷ xs) (suc n) d h = get_there xs n d (omega arith)

  get_left : (xs ys : List X) (n : ℕ) (x : X) → slice_get xs n ≡ Some x → slice_get (xs ++ ys) n ≡ Some x
  get_left [] ys n x e = cc
  get_left (y ∷ xs) ys zero x e = e
  get_left (y ∷ xs) ys (suc n) x e = get_left xs ys n x e

  get_right : (xs ys : List X) (n k : ℕ) → k ≡ length xs + n → slice_get (xs ++ ys) k ≡ slice_get ys n
  get_right [] ys n k e = let same : k ≡ n = omega arith in ap (slice_get ys) same
  get_right (y ∷ xs) ys n zero e = absurd (omega arith)
  get_right (y ∷ xs) ys n (suc k) e = get_right xs ys n k (omega arith)

  pub stand_all : (all : List X) → StandAt all 0 all
  stand_all all = record { at = λ k x e. let same : 0 + k ≡ k = omega arith in ap (slice_get all) same ∙ e }

  pub stand_left : (all : List X) (n : ℕ) (xs ys : List X) → StandAt all n (xs ++ ys) → StandAt all n xs
  stand_left all n xs ys h = record { at = λ k x e. h.at k x (get_left xs ys k x e) }

  pub stand_right : (all : List X) (n : ℕ) (xs ys : List X) → StandAt all n (xs ++ ys) → StandAt all (n + length xs) ys
  stand_right all n xs ys h = record {
    at = λ k x e.
        let same : n + length xs + k ≡ n + (length xs + k) = omega arith in
        ap (slice_get all) same ∙ h.at (length xs + k) x (get_right xs ys k (length xs + k) refl ∙ e);
  }

  pub stand_behind : (all : List X) (n m : ℕ) (xs ys : List X) → n + length xs ≡ m → StandAt all n (xs ++ ys) → StandAt all m ys
  stand_behind all n m xs ys e h = subst (λ (i : ℕ). StandAt all i ys) e (stand_right all n xs ys h)

  pub stand_first : (all : List X) (n : ℕ) (x : X) (xs : List X) → StandAt all n (x ∷ xs) → slice_get all n ≡ Some x
  stand_first all n x xs h = let same : n ≡ n + 0 = omega arith in ap (slice_get all) same ∙ h.at 0 x refl

  pub stand_others : (all : List X) (n : ℕ) (x : X) (xs : List X) → StandAt all n (x ∷ xs) → StandAt all (suc n) xs
  stand_others all n x xs h = record {
    at = λ k y e. let same : suc n + k ≡ n + suc k = omega arith in ap (slice_get all) same ∙ h.at (suc k) y e;
  }

  -- the first element that passes a test stands at the first place that does
  pub found_at : (test : X → Bool) (xs : List X) (x : X) → find test xs ≡ Some x → (k : ℕ) × (position test xs ≡ Some k) × (slice_get xs k ≡ Some x)
  found_at test xs x e =
      let k : ℕ = position_or_len test xs in
      let there : slice_get xs k ≡ Some x = sym (find_at test xs) ∙ e in
      let below : nat_lt k (length xs) ≡ true = (Decides-ltb k (length xs)).1 (get_within xs k x there) in
      (k, ap (λ b. cond b (Some k) None) below, there)

  pub position_passes : (test : X → Bool) (xs : List X) (k : ℕ) (x : X) → position test xs ≡ Some k → slice_get xs k ≡ Some x → test x ≡ true
  position_passes test xs k x e there =
      subst (λ y. test y ≡ true) (get_is xs k x x there) (position-Some test xs k x e).1

  pub found_passes : (test : X → Bool) (xs : List X) (x : X) → find test xs ≡ Some x → test x ≡ true
  found_passes test xs x e =
      let at = found_at test xs x e in position_passes test xs at.0 x at.1 at.2

  pub position_first : (test : X → Bool) (x : X) (xs : List X) → test x ≡ true → position test (x ∷ xs) ≡ Some 0
  position_first test x xs e =
      let none_before : position_or_len test (x ∷ xs) ≡ 0 = ap (λ b. cond (not b) (1 + position_or_len test xs) 0) e in
      let below : nat_lt 0 (length (x ∷ xs)) ≡ true = (Decides-ltb 0 (length (x ∷ xs))).1 (omega arith) in
      ap (λ (k : ℕ). cond (nat_lt k (length (x ∷ xs))) (Some k) None) none_before ∙ ap (λ b. cond b (Some 0) None) below

-- R holds between the elements at each place
abbrev pub Fit : {X Y : Type 0} → (X → Y → Type 0) → List X → List Y → Type 0
Fit R [] ys = Unit {0}
Fit R (x ∷ xs) [] = ⊥
Fit R (x ∷ xs) (y ∷ ys) = R x y × Fit R xs ys

pub fit_at : {X Y : Type 0} (R : X → Y → Type 0) (xs : List X) (ys : List Y) (k : ℕ) (x : X) (d : Y) → Fit R xs ys → slice_get xs k ≡ Some x
    → R x (get_or ys k d)
fit_at R [] ys k x d h e = cc
fit_at R (z ∷ xs) [] k x d h e = absurd h
fit_at R (z ∷ xs) (y ∷ ys) zero x d h e = let same : z ≡ x = cc in subst (λ w. R w y) same h.0
fit_at R (z ∷ xs) (y ∷ ys) (suc k) x d h e = fit_at R xs ys k x d h.1 e

pub fit_map : {X Y : Type 0} (R S : X → Y → Type 0) (f : Y → Y) → ((x : X) (y : Y) → R x y → S x (f y)) → (xs : List X) (ys : List Y) → Fit R xs ys
    → Fit S xs (map f ys)
fit_map R S f on [] ys h = tt
fit_map R S f on (x ∷ xs) [] h = absurd h
fit_map R S f on (x ∷ xs) (y ∷ ys) h = (on x y h.0, fit_map R S f on xs ys h.1)
