-- The rows of a tally, changed one after the other.
use Rattle.std.proofs.Common.{◌≡◌, ◌≤◌, ◌<◌, ◌∙◌, arith, refl, sym, ap, ℕ, zero, suc, List, [], ◌∷◌, ◌++◌, length, map, take, drop, slice_set}
use Rattle.std.proofs.Common.{slice_index_or, ◌+◌, ◌||◌, Bool, true, false, length-set}
use Rattle.std.proofs.lemmas.List.{get_or-map, length-map, map-set}
use Rattle.std.proofs.lemmas.List.Folds.{list_any_more}
use Rattle.cilk_run.specs.Tallied.{Outcome, Row, same_outcome}
use Rattle.cilk_run.specs.Tallying.{AreAtMost, has_row, row_by, rows_by}
use Rattle.cilk_run.specs.declared.row.Row as code

pub or-is-first : (a b : Bool) → b ≡ false → (a || b) ≡ a
or-is-first true b h = refl
or-is-first false b h = h

-- the first rows are changed
abbrev pub partly : {X : Type 0} → (X → X) → List X → ℕ → List X
partly f xs i = map f (take i xs) ++ drop i xs

next : {X : Type 0} (f : X → X) (xs : List X) (i : ℕ) (d : X) → i < length xs → slice_index_or (partly f xs i) i d ≡ slice_index_or xs i d
next f [] i d h = absurd (omega (arith, h))
next f (x ∷ xs) zero d h = refl
next f (x ∷ xs) (suc i) d h = next f xs i d (omega (arith, h))

changed : {X : Type 0} (f : X → X) (xs : List X) (i : ℕ) (y d : X) → i < length xs → y ≡ f (slice_index_or xs i d)
    → slice_set (partly f xs i) i y ≡ partly f xs (suc i)
changed f [] i y d h is = absurd (omega (arith, h))
changed f (x ∷ xs) zero y d h is = λ i. is i ∷ xs
changed f (x ∷ xs) (suc i) y d h is = ap (λ rest. f x ∷ rest) (changed f xs i y d (omega (arith, h)) is)

few-at : (n : ℕ) (rows : List Row) (i : ℕ) (d : Row) → AreAtMost n rows → i < length rows → (slice_index_or rows i d).count ≤ n
few-at n [] i d all h = absurd (omega (arith, h))
few-at n (r ∷ rows) zero d all h = all.0
few-at n (r ∷ rows) (suc i) d all h = few-at n rows i d all.1 (omega (arith, h))

module _ (f : Row → Row) (old now : List code.Row) (i : ℕ) (is : rows_by now ≡ partly f (rows_by old) i)
    (within : i < length old) (same : length now ≡ length old) (d : code.Row) where
  there : i < length now
  there = omega (arith, within, same)

  mapped : i < length (rows_by old)
  mapped = omega (arith, within, length-map old row_by)

  -- the next row is as it was
  pub row-next : row_by (slice_index_or now i d) ≡ slice_index_or (rows_by old) i (row_by d)
  row-next =
      sym (get_or-map row_by now i d (row_by d) there) ∙ ap (λ rows. slice_index_or rows i (row_by d)) is
      ∙ next f (rows_by old) i (row_by d) mapped

  pub row-few : (n : ℕ) → AreAtMost n (rows_by old) → (slice_index_or now i d).count ≤ n
  row-few n all =
      let few = few-at n (rows_by old) i (row_by d) all mapped in
      omega (arith, few, ap (λ (r : Row). r.count) row-next)

  pub rows-next : (row : code.Row) → row_by row ≡ f (row_by (slice_index_or now i d)) → rows_by (slice_set now i row) ≡ partly f (rows_by old) (i + 1)
  rows-next row new =
      let next : suc i ≡ i + 1 = omega arith in
      map-set row_by now i row ∙ ap (λ rows. slice_set rows i (row_by row)) is
      ∙ changed f (rows_by old) i (row_by row) (row_by d) mapped (new ∙ ap f row-next)
      ∙ ap (partly f (rows_by old)) next

  -- whether there is a row of the outcome, by one row more
  pub found-next : (o : Outcome) (was same now_found : Bool) → was ≡ has_row o (take i (rows_by old))
      → same ≡ same_outcome (row_by (slice_index_or now i d)).outcome o
      → now_found ≡ (was || same) → now_found ≡ has_row o (take (i + 1) (rows_by old))
  found-next o was same now_found before is next =
      next ∙ (λ k. before k || (is ∙ ap (λ (r : Row). same_outcome r.outcome o) row-next) k)
      ∙ sym (list_any_more (λ r. same_outcome r.outcome o) (rows_by old) i (row_by d) mapped)

pub same-length : (rows : List code.Row) (i : ℕ) (row : code.Row) → length (slice_set rows i row) ≡ length rows
same-length rows i row = length-set rows i row
