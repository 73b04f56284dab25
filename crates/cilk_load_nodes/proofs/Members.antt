-- The elements of a list, and where they stand.
use Rattle.std.proofs.Common.{◌≡◌, ℕ, zero, suc, List, [], ◌∷◌, map, Some, inl, inr, ap}
use Rattle.std.specs.Prelude.{slice_get}
use Rattle.cilk_model.proofs.scopes_laws.Elements.{Has}

-- x is the element at some place
pub record At {X : Type 0} (xs : List X) (x : X) : Type 0 where
  pub place : ℕ
  pub found : slice_get xs place ≡ Some x

pub at-from-has : {X : Type 0} (xs : List X) (x : X) → Has xs x → At xs x
at-from-has [] x h = absurd h
at-from-has (y ∷ ys) x (inl e) = record { place = 0; found = ap (λ z. Some z) e }
at-from-has (y ∷ ys) x (inr h) = let k = at-from-has ys x h in record { place = suc k.place; found = k.found }

pub has-from-at : {X : Type 0} (xs : List X) (x : X) (k : ℕ) → slice_get xs k ≡ Some x → Has xs x
has-from-at [] x k e = cc
has-from-at (y ∷ ys) x zero e = inl cc
has-from-at (y ∷ ys) x (suc k) e = inr (has-from-at ys x k e)

pub has-map : {X Y : Type 0} (f : X → Y) (xs : List X) (x : X) → Has xs x → Has (map f xs) (f x)
has-map f [] x h = absurd h
has-map f (y ∷ ys) x (inl e) = inl (ap f e)
has-map f (y ∷ ys) x (inr h) = inr (has-map f ys x h)
