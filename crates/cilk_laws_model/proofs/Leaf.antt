-- Below each live instance there is one without a live child.
use Rattle.std.proofs.Common.{◌≡◌, ℕ, zero, suc, ◌+◌, ◌≤◌, Bool, true, false, ◌||◌, [], ◌∷◌, length, Option, Some, None, refl, sym, ap, ◌∙◌, arith}
use Rattle.std.specs.Prelude.{option_map}
use Rattle.cilk_model.specs.Path.{Path, same_path, parent_of, is_that}
use Rattle.cilk_model.specs.State.{Entry, Instances, is_live, has_live_child}
use Rattle.cilk_laws_model.proofs.Entries.{same-is, live-cons}
use Rattle.cilk_laws_model.proofs.Parked.{live_child}

-- no path is longer
abbrev total : Instances → ℕ
total [] = 0
total (e ∷ entries) = length e.path + total entries

short_by : (p : Path) (e : Entry) (entries : Instances) (b : Bool) → same_path e.path p ≡ b → (b || is_live entries p) ≡ true
    → (is_live entries p ≡ true → length p ≤ total entries) → length p ≤ total (e ∷ entries)
short_by p e entries true same live rest =
    let size : length e.path ≡ length p = ap (λ (q : Path). length q) (same-is e.path p same) in omega arith
short_by p e entries false same live rest = let within = rest live in omega arith

short : (p : Path) (entries : Instances) → is_live entries p ≡ true → length p ≤ total entries
short p [] live = cc
short p (e ∷ entries) live =
    short_by p e entries (same_path e.path p) refl (sym (live-cons e entries p) ∙ live) (short p entries)

front_length : (k : ℕ) (o : Option Path) (p : Path) (n : ℕ) → option_map (λ (q : Path). k ∷ q) o ≡ Some p
    → ((q : Path) → o ≡ Some q → n ≡ length q + 1) → suc n ≡ length p + 1
front_length k None p n e h = cc
front_length k (Some q) p n e h =
    let same : k ∷ q ≡ p = cc in
    let size : suc (length q) ≡ length p = ap (λ (r : Path). length r) same in
    let rest = h q refl in
    omega arith

parent_length : (c p : Path) → parent_of c ≡ Some p → length c ≡ length p + 1
parent_length [] p e = cc
parent_length (k ∷ []) p e =
    let same : [] ≡ p = cc in
    let size : 0 ≡ length p = ap (λ (r : Path). length r) same in
    omega arith
parent_length (k ∷ l ∷ c) p e = front_length k (parent_of (l ∷ c)) p (length (l ∷ c)) e (parent_length (l ∷ c))

child_length : (p c : Path) (o : Option Path) → parent_of c ≡ o → is_that p o ≡ true → length c ≡ length p + 1
child_length p c None e h = cc
child_length p c (Some q) e h =
    let size : length p ≡ length q = ap (λ (r : Path). length r) (same-is p q h) in
    let more = parent_length c q e in
    omega arith

pub record IsLeaf (entries : Instances) (p : Path) : Type 0 where
  pub lives : is_live entries p ≡ true
  pub childless : has_live_child entries p ≡ false

leaf_by : (entries : Instances) (p : Path) (fuel : ℕ) → is_live entries p ≡ true → total entries ≤ length p + fuel → (b : Bool) → has_live_child entries p ≡ b
    → ((c : Path) → is_live entries c ≡ true → length c ≡ length p + 1 → (q : Path) × IsLeaf entries q) → (q : Path) × IsLeaf entries q
leaf_by entries p fuel live bound true h rest =
    let c = live_child p entries h in
    rest c.child c.live (child_length p c.child (parent_of c.child) refl c.is)
leaf_by entries p fuel live bound false h rest = (p, record { lives = live; childless = h })

leaf_within : (entries : Instances) (fuel : ℕ) (p : Path) → is_live entries p ≡ true → total entries ≤ length p + fuel → (q : Path) × IsLeaf entries q
leaf_within entries zero p live bound =
    leaf_by entries p zero live bound (has_live_child entries p) refl (λ c lives size. let within = short c entries lives in absurd (omega arith))
leaf_within entries (suc fuel) p live bound =
    leaf_by entries p (suc fuel) live bound (has_live_child entries p) refl (λ c lives size. leaf_within entries fuel c lives (omega arith))

pub some_leaf : (entries : Instances) (p : Path) → is_live entries p ≡ true → (q : Path) × IsLeaf entries q
some_leaf entries p live = leaf_within entries (total entries) p live (omega arith)
