-- The elements of a list, and where they stand in it.
use Rattle.std.proofs.Common.{◌≡◌, zero, suc, List, [], ◌∷◌, ◌++◌, ◌⊎◌, inl, inr, refl, sym, subst, arith}
use Rattle.std.specs.List.{Contains, flat_map}

-- x is an element of the list
abbrev pub Has : {X : Type 0} → List X → X → Type 0
Has [] x = ⊥
Has (y ∷ ys) x = (y ≡ x) ⊎ Has ys x

pub Has-from_Contains : {X : Type 0} (xs : List X) (x : X) → Contains xs x → Has xs x
Has-from_Contains [] x (k, below, at) = absurd (omega arith)
Has-from_Contains (y ∷ ys) x (zero, below, at) = inl at
Has-from_Contains (y ∷ ys) x (suc k, below, at) = inr (Has-from_Contains ys x (k, omega arith, at))

pub Contains-from_Has : {X : Type 0} (xs : List X) (x : X) → Has xs x → Contains xs x
Contains-from_Has [] x h = absurd h
Contains-from_Has (y ∷ ys) x (inl e) = (0, omega arith, e)
Contains-from_Has (y ∷ ys) x (inr h) = let c = Contains-from_Has ys x h in (suc c.0, omega arith, c.2)

pub Has-append_left : {X : Type 0} (xs ys : List X) (x : X) → Has xs x → Has (xs ++ ys) x
Has-append_left [] ys x h = absurd h
Has-append_left (z ∷ xs) ys x (inl e) = inl e
Has-append_left (z ∷ xs) ys x (inr h) = inr (Has-append_left xs ys x h)

pub Has-append_right : {X : Type 0} (xs ys : List X) (x : X) → Has ys x → Has (xs ++ ys) x
Has-append_right [] ys x h = h
Has-append_right (z ∷ xs) ys x h = inr (Has-append_right xs ys x h)

pub Has-append_cases : {X : Type 0} (xs ys : List X) (x : X) → Has (xs ++ ys) x → Has xs x ⊎ Has ys x
Has-append_cases [] ys x h = inr h
Has-append_cases (z ∷ xs) ys x (inl e) = inl (inl e)
Has-append_cases (z ∷ xs) ys x (inr h) = elim (Has-append_cases xs ys x h) [ inl k ↦ inl (inr k) | inr k ↦ inr k ]

pub Has-flat_map : {X Y : Type 0} (g : X → List Y) (xs : List X) (x : X) (y : Y) → Has xs x → Has (g x) y → Has (flat_map g xs) y
Has-flat_map g [] x y k h = absurd k
Has-flat_map g (z ∷ xs) x y (inl e) h =
    Has-append_left (g z) (flat_map g xs) y (subst (λ w. Has (g w) y) (sym e) h)
Has-flat_map g (z ∷ xs) x y (inr k) h = Has-append_right (g z) (flat_map g xs) y (Has-flat_map g xs x y k h)

-- an element of a list from which y comes
pub record Owner {X Y : Type 0} (g : X → List Y) (xs : List X) (y : Y) : Type 0 where
  pub owner : X
  pub is_element : Has xs owner
  pub has : Has (g owner) y

pub Has-flat_map_cases : {X Y : Type 0} (g : X → List Y) (xs : List X) (y : Y) → Has (flat_map g xs) y → Owner g xs y
Has-flat_map_cases g [] y h = absurd h
Has-flat_map_cases g (x ∷ xs) y h =
    elim (Has-append_cases (g x) (flat_map g xs) y h) [
      | inl k ↦ record { owner = x; is_element = inl refl; has = k }
      | inr k ↦ let o = Has-flat_map_cases g xs y k
          in record { owner = o.owner; is_element = inr o.is_element; has = o.has }
    ]
