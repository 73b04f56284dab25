-- Parents, children and what is below a path.
use Rattle.std.proofs.Common.{◌≡◌, ◌≢◌, ℕ, ◌==◌, false, [], ◌∷◌, Option, Some, None, refl, ap}
use Rattle.std.specs.Prelude.{option_map}
use Rattle.std.proofs.lemmas.Bool.{and_right}
use Rattle.cilk_model.specs.Path.{Path, child_path, parent_of, is_below}

pub not_own : (q : Path) (k : ℕ) → q ≡ child_path q k → ⊥
not_own [] k e = cc
not_own (a ∷ q) k e = not_own q k (cc)

-- the root has no parent, and every other path is a child's
abbrev pub Origin : Path → Option Path → Type 0
Origin p None = p ≡ []
Origin p (Some q) = (k : ℕ) × (p ≡ child_path q k)

origin_by : (k : ℕ) (p : Path) (o : Option Path) → p ≢ [] → Origin p o → Origin (k ∷ p) (option_map (λ q. k ∷ q) o)
origin_by k p None some h = absurd (some h)
origin_by k p (Some q) some h = (h.0, ap (λ (x : Path). k ∷ x) h.1)

pub origin : (p : Path) → Origin p (parent_of p)
origin [] = refl
origin (k ∷ []) = (k, refl)
origin (k ∷ l ∷ p) = origin_by k (l ∷ p) (parent_of (l ∷ p)) (λ e. cc) (origin (l ∷ p))

-- nothing is below itself
pub not_below : (p : Path) → is_below p p ≡ false
not_below [] = refl
not_below (k ∷ p) = and_right (k == k) (is_below p p) (not_below p)
