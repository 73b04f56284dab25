-- Rows sorted by their first seeds, and then by how many runs they have.
use Rattle.std.proofs.Common.{◌≡◌, ◌+◌, ◌<◌, ◌∙◌, arith, refl, sym, ℕ, Bool, true, false, not, ◌||◌, ◌&&◌, cond, List, [], ◌∷◌, length}
use Rattle.std.proofs.Common.{slice_index_or}
use Rattle.std.specs.Prelude.{nat_lt, nat_le, ◌==◌}
use Rattle.std.specs.Ordering.{is_lt, nat_cmp}
use Rattle.std.specs.List.Sorted.{IsPermutation, IsSortedBy, IsSortedByKey, IsStableBy, ties}
use Rattle.std.specs.Cmp.{IsStrictWeakOrder}
use Rattle.std.specs.declared.cmp.Ordering.TheVariants.{Less, Equal, Greater}
use Rattle.std.proofs.lemmas.List.{get_or-map, length-map}
use Rattle.std.proofs.lemmas.List.Sorted.{IsPermutation-map, IsPermutation-trans, IsStrictWeakOrder-by_number, IsStrictWeakOrder-flip, ties_stay_sorted}
use Rattle.cilk_run.specs.Tallied.{IsRanked, Row, comes_before}
use Rattle.cilk_run.specs.Tallying.{row_by, rows_by}
use Rattle.cilk_run.specs.declared.row.Row as code

-- more runs
abbrev pub has_more : code.Row → code.Row → Bool
has_more a b = nat_lt b.count a.count

pub has_more-is_order : IsStrictWeakOrder has_more
has_more-is_order = IsStrictWeakOrder-flip (λ a b. nat_lt a.count b.count) (IsStrictWeakOrder-by_number (λ (r : code.Row). r.count))

abbrev is_sooner : code.Row → code.Row → Bool
is_sooner a b = nat_lt a.first b.first

pub lt-is : (m n : ℕ) → is_lt (nat_cmp m n) ≡ nat_lt m n
lt-is m n = go (nat_lt m n) (m == n)
  where
    go : (less same : Bool) → is_lt (cond less Less (cond same Equal Greater)) ≡ less
    go true same = refl
    go false true = refl
    go false false = refl

in_order : (more fewer same sooner : Bool) → fewer ≡ false → (more ≡ false → same ≡ true) → (more ≡ false → sooner ≡ true) → (more || (same && sooner)) ≡ true
in_order true fewer same sooner least equal first = refl
in_order false fewer same sooner least equal first = λ i. equal refl i && first refl i

equal_if : (m n : ℕ) → nat_lt m n ≡ false → nat_lt n m ≡ false → (m == n) ≡ true
equal_if m n a b = grind arith

least_if : (m n : ℕ) → nat_lt n m ≡ false → nat_le m n ≡ true
least_if m n a = grind arith

module _ (xs ys : List code.Row) (first : IsSortedByKey (λ (r : code.Row). r.first) nat_cmp xs) (more : IsSortedBy has_more ys)
    (stable : IsStableBy has_more xs ys) where
  -- neighbours with as many runs stand in the order of their seeds
  tied : (k : ℕ) (d : code.Row) → k + 1 < length ys → ties has_more (slice_index_or ys k d) (slice_index_or ys (k + 1) d) ≡ true
      → is_sooner (slice_index_or ys (k + 1) d) (slice_index_or ys k d) ≡ false
  tied k d within tie =
      ties_stay_sorted is_sooner has_more (IsStrictWeakOrder-by_number (λ (r : code.Row). r.first)) has_more-is_order xs ys
      (λ k d low high. sym (lt-is (slice_index_or xs (k + 1) d).first (slice_index_or xs k d).first) ∙ first k d low high) stable k d within tie

  neighbours : (k : ℕ) (d : code.Row) → k + 1 < length ys
      → comes_before (row_by (slice_index_or ys k d)) (row_by (slice_index_or ys (k + 1) d)) ≡ true
  neighbours k d within =
      let a = slice_index_or ys k d in
      let b = slice_index_or ys (k + 1) d in
      let least : nat_lt a.count b.count ≡ false = more k d (omega arith) within in
      in_order (nat_lt b.count a.count) (nat_lt a.count b.count) (a.count == b.count) (nat_le a.first b.first) least
      (λ none. equal_if a.count b.count least none)
      (λ none. least_if a.first b.first (tied k d within (λ i. not (none i) && not (least i))))

ranked : (ys : List code.Row)
    → ((k : ℕ) (d : code.Row) → k + 1 < length ys → comes_before (row_by (slice_index_or ys k d)) (row_by (slice_index_or ys (k + 1) d)) ≡ true)
    → (k : ℕ) (d : Row) → k + 1 < length (rows_by ys) → comes_before (slice_index_or (rows_by ys) k d) (slice_index_or (rows_by ys) (k + 1) d) ≡ true
ranked [] order k d within = absurd (omega (arith, within))
ranked (y ∷ ys) order k d within =
    let all : k + 1 < length (y ∷ ys) = omega (arith, within, length-map (y ∷ ys) row_by) in
    (λ i. comes_before (get_or-map row_by (y ∷ ys) k y d (omega (arith, all)) i) (get_or-map row_by (y ∷ ys) (k + 1) y d all i)) ∙ order k y all

pub sorted-twice : (rows xs ys : List code.Row) → IsPermutation rows xs → IsPermutation xs ys → IsSortedByKey (λ (r : code.Row). r.first) nat_cmp xs
    → IsSortedBy has_more ys → IsStableBy has_more xs ys → IsRanked (rows_by rows) (rows_by ys)
sorted-twice rows xs ys one other first more stable = record {
  same = IsPermutation-map row_by rows ys (IsPermutation-trans rows xs ys one other);
  order = ranked ys (neighbours xs ys first more stable);
}
