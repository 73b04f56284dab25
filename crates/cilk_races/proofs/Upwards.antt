-- Ways up from instances to the root, and the paths that they tell.
use Rattle.std.proofs.Common.{◌≡◌, ◌<◌, ◌≤◌, ◌+◌, ◌-◌, ◌==◌, ◌⊎◌, ℕ, min, zero, suc, Bool, true, false, ◌&&◌, if◌then◌else◌, List, [], ◌∷◌, ◌++◌, length, take}
use Rattle.std.proofs.Common.{refl, sym, ap, ◌∙◌, arith, inl, inr}
use Rattle.std.specs.Prelude.{slice_index_or}
use Rattle.std.proofs.lemmas.Bool.{cases_eq, cases_lt, eq-eqb, false_from_ne_true, ne_eqb}
use Rattle.std.proofs.lemmas.List.{append-nil, append_assoc, get_or_append_left, get_or_push, length_push, take-append-le, take_all}
use Rattle.cilk_log_replay.specs.machine.model.Path.{Path, same_path}
use Rattle.cilk_log_replay.proofs.machine_laws.spawn_laws.Paths.{same_is}
use Rattle.cilk_races.specs.declared.row.Row.{Row}
use Rattle.cilk_races.specs.Mixed.{mixed, mixed_all}
use Rattle.cilk_races.specs.Related.{common}
use Rattle.cilk_races.specs.Ways.{above, blocks_up, path_up, row_at}

and-true : (a : Bool) → (a && true) ≡ a
and-true true = refl
and-true false = refl

and-false : (a : Bool) → (a && false) ≡ false
and-false true = refl
and-false false = refl

and-three : (a b c : Bool) → (a && (b && c)) ≡ ((a && b) && c)
and-three true b c = refl
and-three false b c = refl

-- paths with one number more
longer-right : (q : Path) (b : ℕ) → same_path [] (q ++ b ∷ []) ≡ false
longer-right [] b = refl
longer-right (l ∷ q) b = refl

longer-left : (p : Path) (a : ℕ) → same_path (p ++ a ∷ []) [] ≡ false
longer-left [] a = refl
longer-left (k ∷ p) a = refl

same-push : (p q : Path) (a b : ℕ) → same_path (p ++ a ∷ []) (q ++ b ∷ []) ≡ (same_path p q && (a == b))
same-push [] [] a b = and-true (a == b)
same-push [] (l ∷ q) a b = ap (λ x. (a == l) && x) (longer-right q b) ∙ and-false (a == l)
same-push (k ∷ p) [] a b = ap (λ x. (k == b) && x) (longer-left p a) ∙ and-false (k == b)
same-push (k ∷ p) (l ∷ q) a b = ap (λ x. (k == l) && x) (same-push p q a b) ∙ and-three (k == l) (same_path p q) (a == b)

pub mixed-push : (hash : ℕ) (p : Path) (a : ℕ) → mixed_all hash (p ++ a ∷ []) ≡ mixed (mixed_all hash p) a
mixed-push hash [] a = refl
mixed-push hash (k ∷ p) a = mixed-push (mixed hash k) p a

-- one level up
pub path-step : (rows : List Row) (n i : ℕ) → 0 < n → path_up rows n i ≡ path_up rows (n - 1) (row_at rows i).parent ++ (row_at rows i).ordinal ∷ []
path-step rows zero i h = absurd (omega (arith, h))
path-step rows (suc n) i h =
    let less : n ≡ suc n - 1 = omega arith in
    ap (λ d. path_up rows d (row_at rows i).parent ++ (row_at rows i).ordinal ∷ []) less

pub path-size : (rows : List Row) (n i : ℕ) → length (path_up rows n i) ≡ n
path-size rows zero i = refl
path-size rows (suc n) i =
    let front = path-size rows n (row_at rows i).parent in
    length_push (path_up rows n (row_at rows i).parent) (row_at rows i).ordinal ∙ omega (arith, front)

pub blocks-size : (rows : List Row) (n i : ℕ) → length (blocks_up rows n i) ≡ n
blocks-size rows zero i = refl
blocks-size rows (suc n) i =
    let front = blocks-size rows n (row_at rows i).parent in
    length_push (blocks_up rows n (row_at rows i).parent) (row_at rows i).block ∙ omega (arith, front)

pub same-step : (rows others : List Row) (n i k : ℕ) → 0 < n
    → same_path (path_up rows n i) (path_up others n k)
    ≡ (same_path (path_up rows (n - 1) (row_at rows i).parent) (path_up others (n - 1) (row_at others k).parent)
    && ((row_at rows i).ordinal == (row_at others k).ordinal))
same-step rows others n i k h =
    (λ j. same_path (path-step rows n i h j) (path-step others n k h j))
    ∙ same-push (path_up rows (n - 1) (row_at rows i).parent) (path_up others (n - 1) (row_at others k).parent) (row_at rows i).ordinal
    (row_at others k).ordinal

-- the same number, or another
pub same-on : (rows others : List Row) (n i k : ℕ) → 0 < n → (row_at rows i).ordinal ≡ (row_at others k).ordinal
    → same_path (path_up rows n i) (path_up others n k)
    ≡ same_path (path_up rows (n - 1) (row_at rows i).parent) (path_up others (n - 1) (row_at others k).parent)
same-on rows others n i k h is =
    same-step rows others n i k h
    ∙ ap (λ b. same_path (path_up rows (n - 1) (row_at rows i).parent) (path_up others (n - 1) (row_at others k).parent) && b)
    (eq-eqb (row_at rows i).ordinal (row_at others k).ordinal is)
    ∙ and-true (same_path (path_up rows (n - 1) (row_at rows i).parent) (path_up others (n - 1) (row_at others k).parent))

pub same-off : (rows others : List Row) (n i k : ℕ) → 0 < n → ((row_at rows i).ordinal ≡ (row_at others k).ordinal → ⊥)
    → same_path (path_up rows n i) (path_up others n k) ≡ false
same-off rows others n i k h differs =
    same-step rows others n i k h
    ∙ ap (λ b. same_path (path_up rows (n - 1) (row_at rows i).parent) (path_up others (n - 1) (row_at others k).parent) && b)
    (ne_eqb (row_at rows i).ordinal (row_at others k).ordinal differs)
    ∙ and-false (same_path (path_up rows (n - 1) (row_at rows i).parent) (path_up others (n - 1) (row_at others k).parent))

-- paths of other lengths differ
pub unlike : (p q : Path) → (length p ≡ length q → ⊥) → same_path p q ≡ false
unlike p q differs = false_from_ne_true (same_path p q) (λ h. differs (ap length (same_is p q h)))

pub apart-deep : (rows others : List Row) (n m i k : ℕ) → (n ≡ m → ⊥) → same_path (path_up rows n i) (path_up others m k) ≡ false
apart-deep rows others n m i k differs =
    unlike (path_up rows n i) (path_up others m k)
    (λ same. let first = path-size rows n i in let second = path-size others m k in differs (omega (arith, first, second, same)))

-- what stands at a level
number-at-by : (rows : List Row) (n i at : ℕ) → at < suc n
    → (at < n → slice_index_or (path_up rows n (row_at rows i).parent) at 0 ≡ (row_at rows (above rows (n - at - 1) (row_at rows i).parent)).ordinal)
    → (at < n) ⊎ (n ≤ at) → slice_index_or (path_up rows (suc n) i) at 0 ≡ (row_at rows (above rows (suc n - at - 1) i)).ordinal
number-at-by rows n i at h before (inl low) =
    let size = path-size rows n (row_at rows i).parent in
    let level : suc (n - at - 1) ≡ suc n - at - 1 = omega (arith, low) in
    get_or_append_left (path_up rows n (row_at rows i).parent) ((row_at rows i).ordinal ∷ []) 0 at (omega (arith, low, size))
    ∙ before low ∙ ap (λ d. (row_at rows (above rows d i)).ordinal) level
number-at-by rows n i at h before (inr high) =
    let size = path-size rows n (row_at rows i).parent in
    let level : 0 ≡ suc n - at - 1 = omega (arith, high) in
    get_or_push (path_up rows n (row_at rows i).parent) (row_at rows i).ordinal 0 at (omega (arith, h, high, size))
    ∙ ap (λ d. (row_at rows (above rows d i)).ordinal) level

pub number-at : (rows : List Row) (n i at : ℕ) → at < n → slice_index_or (path_up rows n i) at 0 ≡ (row_at rows (above rows (n - at - 1) i)).ordinal
number-at rows zero i at h = absurd (omega (arith, h))
number-at rows (suc n) i at h = number-at-by rows n i at h (number-at rows n (row_at rows i).parent at) (cases_lt at n)

block-at-by : (rows : List Row) (n i at : ℕ) → at < suc n
    → (at < n → slice_index_or (blocks_up rows n (row_at rows i).parent) at 0 ≡ (row_at rows (above rows (n - at - 1) (row_at rows i).parent)).block)
    → (at < n) ⊎ (n ≤ at) → slice_index_or (blocks_up rows (suc n) i) at 0 ≡ (row_at rows (above rows (suc n - at - 1) i)).block
block-at-by rows n i at h before (inl low) =
    let size = blocks-size rows n (row_at rows i).parent in
    let level : suc (n - at - 1) ≡ suc n - at - 1 = omega (arith, low) in
    get_or_append_left (blocks_up rows n (row_at rows i).parent) ((row_at rows i).block ∷ []) 0 at (omega (arith, low, size))
    ∙ before low ∙ ap (λ d. (row_at rows (above rows d i)).block) level
block-at-by rows n i at h before (inr high) =
    let size = blocks-size rows n (row_at rows i).parent in
    let level : 0 ≡ suc n - at - 1 = omega (arith, high) in
    get_or_push (blocks_up rows n (row_at rows i).parent) (row_at rows i).block 0 at (omega (arith, h, high, size))
    ∙ ap (λ d. (row_at rows (above rows d i)).block) level

pub block-at : (rows : List Row) (n i at : ℕ) → at < n → slice_index_or (blocks_up rows n i) at 0 ≡ (row_at rows (above rows (n - at - 1) i)).block
block-at rows zero i at h = absurd (omega (arith, h))
block-at rows (suc n) i at h = block-at-by rows n i at h (block-at rows n (row_at rows i).parent at) (cases_lt at n)

-- a path is that of an instance above it, and more
pub record Splits (p front : Path) : Type 0 where
  pub rest : Path
  pub is : p ≡ front ++ rest

split-by : (rows : List Row) (n m i : ℕ) → m ≤ suc n
    → (m ≤ n → Splits (path_up rows n (row_at rows i).parent) (path_up rows m (above rows (n - m) (row_at rows i).parent)))
    → (n < m) ⊎ (m ≤ n) → Splits (path_up rows (suc n) i) (path_up rows m (above rows (suc n - m) i))
split-by rows n m i h before (inl high) =
    let whole : suc n ≡ m = omega (arith, h, high) in
    let none : 0 ≡ suc n - m = omega (arith, high) in
    record {
      rest = [];
      is = ap (λ d. path_up rows d i) whole ∙ ap (λ d. path_up rows m (above rows d i)) none ∙ sym (append-nil (path_up rows m (above rows (suc n - m) i)));
    }
split-by rows n m i h before (inr low) =
    let up = before low in
    let level : suc (n - m) ≡ suc n - m = omega (arith, low) in
    record {
      rest = up.rest ++ (row_at rows i).ordinal ∷ [];
      is = ap (λ p. p ++ (row_at rows i).ordinal ∷ []) up.is
          ∙ append_assoc (path_up rows m (above rows (n - m) (row_at rows i).parent)) up.rest ((row_at rows i).ordinal ∷ [])
          ∙ ap (λ d. path_up rows m (above rows d i) ++ (up.rest ++ (row_at rows i).ordinal ∷ [])) level;
    }

pub split : (rows : List Row) (n m i : ℕ) → m ≤ n → Splits (path_up rows n i) (path_up rows m (above rows (n - m) i))
split rows zero zero i h = record { rest = []; is = refl }
split rows zero (suc m) i h = absurd (omega (arith, h))
split rows (suc n) m i h = split-by rows n m i h (split rows n m (row_at rows i).parent) (cases_lt n m)

pub take-way : (rows : List Row) (n m i : ℕ) → m ≤ n → take m (path_up rows n i) ≡ path_up rows m (above rows (n - m) i)
take-way rows n m i h =
    let s = split rows n m i h in
    let size = path-size rows m (above rows (n - m) i) in
    ap (take m) s.is ∙ take-append-le m (path_up rows m (above rows (n - m) i)) s.rest (omega (arith, size))
    ∙ take_all m (path_up rows m (above rows (n - m) i)) (omega (arith, size))

-- what is common to paths of one length, and to longer ones
common-end : (q : Path) → common q [] ≡ 0
common-end [] = refl
common-end (l ∷ q) = refl

common-left : (p r q : Path) → length p ≡ length q → common (p ++ r) q ≡ common p q
common-left [] r [] h = common-end r
common-left [] r (l ∷ q) h = absurd (omega (arith, h))
common-left (k ∷ p) r [] h = absurd (omega (arith, h))
common-left (k ∷ p) r (l ∷ q) h = ap (λ n. if k == l then suc n else 0) (common-left p r q (omega (arith, h)))

common-right : (p q s : Path) → length p ≡ length q → common p (q ++ s) ≡ common p q
common-right [] [] s h = refl
common-right [] (l ∷ q) s h = absurd (omega (arith, h))
common-right (k ∷ p) [] s h = absurd (omega (arith, h))
common-right (k ∷ p) (l ∷ q) s h = ap (λ n. if k == l then suc n else 0) (common-right p q s (omega (arith, h)))

-- the deeper of two is lifted
lifted : (rows : List Row) (long depth i : ℕ) → depth ≡ long → path_up rows depth (above rows (long - depth) i) ≡ path_up rows long i
lifted rows long depth i whole =
    let none : long - depth ≡ 0 = omega (arith, whole) in
    λ j. path_up rows (whole j) (above rows (none j) i)

-- n where two are the same, and else what is common to them
abbrev pub shared_by : Path → Path → ℕ → ℕ
shared_by p q n = if same_path p q then n else common p q

common-self : (p : Path) → common p p ≡ length p
common-self [] = refl
common-self (k ∷ p) = ap (λ b. if b then suc (common p p) else 0) (eq-eqb k k refl) ∙ ap suc (common-self p)

common-parts : (p : Path) (a b : ℕ) → (a ≡ b → ⊥) → common (p ++ a ∷ []) (p ++ b ∷ []) ≡ length p
common-parts [] a b differs = ap (λ x. if x then 1 else 0) (ne_eqb a b differs)
common-parts (k ∷ p) a b differs =
    ap (λ x. if x then suc (common (p ++ a ∷ []) (p ++ b ∷ [])) else 0) (eq-eqb k k refl) ∙ ap suc (common-parts p a b differs)

common-apart-by : (p q v w : Path) (b : Bool) → (same_path p q ≡ false → common v w ≡ common p q) → (b && same_path p q) ≡ false
    → (if b then suc (common v w) else 0) ≡ (if b then suc (common p q) else 0)
common-apart-by p q v w true before e = ap suc (before e)
common-apart-by p q v w false before e = refl

common-apart : (p q r s : Path) → length p ≡ length q → same_path p q ≡ false → common (p ++ r) (q ++ s) ≡ common p q
common-apart [] [] r s h apart = cc
common-apart [] (l ∷ q) r s h apart = absurd (omega (arith, h))
common-apart (k ∷ p) [] r s h apart = absurd (omega (arith, h))
common-apart (k ∷ p) (l ∷ q) r s h apart =
    common-apart-by p q (p ++ r) (q ++ s) (k == l) (common-apart p q r s (omega (arith, h))) apart

pub shared-first : (p q : Path) (n : ℕ) → length p ≡ n → shared_by p q n ≡ common p q
shared-first p q n size = by (same_path p q) refl
  where
    by : (b : Bool) → same_path p q ≡ b → (if b then n else common p q) ≡ common p q
    by true e = sym size ∙ sym (common-self p) ∙ ap (common p) (same_is p q e)
    by false e = refl

shared-push : (p q : Path) (a b n : ℕ) → length p ≡ length q
    → shared_by (p ++ a ∷ []) (q ++ b ∷ []) n ≡ shared_by p q (if a == b then n else length p)
shared-push p q a b n size =
    ap (λ x. if x then n else common (p ++ a ∷ []) (q ++ b ∷ [])) (same-push p q a b) ∙ by (same_path p q) refl (cases_eq a b)
  where
    by : (x : Bool) → same_path p q ≡ x → (a ≡ b) ⊎ (a ≡ b → ⊥)
        → (if x && (a == b) then n else common (p ++ a ∷ []) (q ++ b ∷ [])) ≡ (if x then (if a == b then n else length p) else common p q)
    by true e (inl is) =
        ap (λ y. if y then n else common (p ++ a ∷ []) (q ++ b ∷ [])) (eq-eqb a b is) ∙ sym (ap (λ y. if y then n else length p) (eq-eqb a b is))
    by true e (inr differs) =
        ap (λ y. if y then n else common (p ++ a ∷ []) (q ++ b ∷ [])) (ne_eqb a b differs)
        ∙ ap (λ x. common (p ++ a ∷ []) (x ++ b ∷ [])) (sym (same_is p q e)) ∙ common-parts p a b differs
        ∙ sym (ap (λ y. if y then n else length p) (ne_eqb a b differs))
    by false e which = common-apart p q (a ∷ []) (b ∷ []) size e

pub shared-step : (rows : List Row) (n i k shared : ℕ) → 0 < n
    → shared_by (path_up rows n i) (path_up rows n k) shared
    ≡ shared_by (path_up rows (n - 1) (row_at rows i).parent) (path_up rows (n - 1) (row_at rows k).parent)
    (if (row_at rows i).ordinal == (row_at rows k).ordinal then shared else n - 1)
shared-step rows n i k shared h =
    let left = path-size rows (n - 1) (row_at rows i).parent in
    let right = path-size rows (n - 1) (row_at rows k).parent in
    (λ j. shared_by (path-step rows n i h j) (path-step rows n k h j) shared)
    ∙ shared-push (path_up rows (n - 1) (row_at rows i).parent) (path_up rows (n - 1) (row_at rows k).parent) (row_at rows i).ordinal
    (row_at rows k).ordinal shared (omega (arith, left, right))
    ∙ ap (λ m. shared_by (path_up rows (n - 1) (row_at rows i).parent) (path_up rows (n - 1) (row_at rows k).parent)
    (if (row_at rows i).ordinal == (row_at rows k).ordinal then shared else m)) left

-- what is common to two is so of what stands above them, where both lie as deep
module _ (rows : List Row) (first second one other : ℕ) where
  abbrev depth : ℕ
  depth = min first second

  abbrev p : Path
  p = path_up rows depth (above rows (first - depth) one)

  abbrev q : Path
  q = path_up rows depth (above rows (second - depth) other)

  size : length p ≡ length q
  size =
      let left = path-size rows depth (above rows (first - depth) one) in
      let right = path-size rows depth (above rows (second - depth) other) in
      omega (arith, left, right)

  lifted-by : (first < second) ⊎ (second ≤ first) → common p q ≡ common (path_up rows first one) (path_up rows second other)
  lifted-by (inl low) =
      let right = split rows second depth other (omega (arith, low)) in
      sym (common-right p q right.rest size) ∙ (λ j. common (lifted rows first depth one (omega (arith, low)) j) (sym right.is j))
  lifted-by (inr high) =
      let left = split rows first depth one (omega (arith, high)) in
      sym (common-left p left.rest q size) ∙ (λ j. common (sym left.is j) (lifted rows second depth other (omega (arith, high)) j))

  pub common-lifted : common p q ≡ common (path_up rows first one) (path_up rows second other)
  common-lifted = lifted-by (cases_lt first second)
