-- What a rule means when its parts mean what is alike: the same but for places, say.
use Rattle.std.specs.Prelude.{◌≡◌, List, [], ◌∷◌, ◌⊎◌}
use Rattle.cilk_parse_grammar.specs.Rule.{Rule, done, skip, part, and_then, either, many, nearest, by_value}

pub data EachAlike {A : Type 0} (R : A → A → Type 0) : List A → List A → Type 0 where
  no_more : EachAlike R [] []
  one_more : {x y : A} {xs ys : List A} → R x y → EachAlike R xs ys → EachAlike R (x ∷ xs) (y ∷ ys)

pub record BothAlike {A B : Type 0} (R : B → B → Type 0) (S : B → (B → A) → (B → A) → Type 0) (x y : A) : Type 0 where
  pub one : B
  pub other : B
  pub makes : B → A
  pub makes_other : B → A
  pub alike : R one other
  pub alike_makes : S one makes makes_other
  pub is : x ≡ makes one
  pub is_other : y ≡ makes_other other

module _ {Part : Type 0} {Means : Part → Type 0} (likes : (p : Part) → Means p → Means p → Type 0) where
  abbrev pub Alike : {A : Type 0} → Rule Means A → A → A → Type 0
  Alike (done a) x y = (x ≡ a) × (y ≡ a)
  Alike (skip c p) x y = Alike p x y
  Alike (part p) x y = likes p x y
  Alike (and_then p q) x y = BothAlike (λ b c. Alike p b c) (λ b f g. Alike q f g) x y
  Alike (either p q) x y = Alike p x y ⊎ Alike q x y
  Alike (many p) xs ys = EachAlike (λ x y. Alike p x y) xs ys
  Alike (nearest p a) x y = Alike p x y ⊎ ((x ≡ a) × (y ≡ a))
  Alike (by_value v p q r) x y = BothAlike (λ b c. Alike p b c × (v b ≡ v c)) (λ b f g. Alike q f g ⊎ Alike r f g) x y

  -- whatever alike parts are put in, the two that come out are in R
  abbrev pub Keeps : {A : Type 0} → Rule Means A → (A → A → Type 0) → Type 0
  Keeps (done a) R = R a a
  Keeps (skip c p) R = Keeps p R
  Keeps (part p) R = (x y : Means p) → likes p x y → R x y
  Keeps (and_then p q) R = Keeps p (λ b c. Keeps q (λ f g. R (f b) (g c)))
  Keeps (either p q) R = Keeps p R × Keeps q R
  Keeps {A = A} (many {A = B} p) R = (xs ys : List B) → EachAlike (λ x y. Alike p x y) xs ys → R xs ys
  Keeps (nearest p a) R = Keeps p R × R a a
  Keeps (by_value v p q r) R = Keeps p (λ b c. Keeps q (λ f g. R (f b) (g c)) × Keeps r (λ f g. R (f b) (g c)))

  -- the tests by which rules go on give the same on what is alike
  abbrev pub Steady : {A : Type 0} → Rule Means A → Type 0
  Steady (done a) = Unit {0}
  Steady (skip c p) = Steady p
  Steady (part p) = Unit {0}
  Steady (and_then p q) = Steady p × Steady q
  Steady (either p q) = Steady p × Steady q
  Steady (many p) = Steady p
  Steady (nearest p a) = Steady p
  Steady (by_value v p q r) = Steady p × Steady q × Steady r × Keeps p (λ b c. v b ≡ v c)
