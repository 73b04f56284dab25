-- The lines of the instances ever made are what the definition says.
use Rattle.std.proofs.Common.{◌≡◌, ℕ, suc, ◌+◌, ◌<◌, Bool, false, cond, List, [], ◌∷◌, ◌++◌, map, length, refl, sym, ap}
use Rattle.std.proofs.Common.{◌∙◌, subst, arith, All, count_by, sum_by, slice_index_or}
use Rattle.std.specs.Global.{Vec}
use Rattle.std.specs.List.{range_with_len}
use Rattle.std.specs.List.Sorted.{IsPermutation, IsSorted}
use Rattle.std.proofs.Common.{Ordering, Less, Equal, Greater}
use Rattle.std.specs.Ordering.{nat_cmp, is_lt, ordering_then}
use Rattle.std.specs.Cmp.Lexicographic.{slice_cmp}
use Rattle.std.proofs.lemmas.List.Sorted.{sum_by-IsPermutation}
use Rattle.std.proofs.lemmas.List.Sums.{sum_by-cons}
use Rattle.std.proofs.lemmas.List.Elements.{All-push}
use Rattle.std.proofs.lemmas.List.{map-append}
use Rattle.cilk_machine_agree.specs.model.Path.{Path, same_path}
use Rattle.cilk_machine_agree.specs.spawn.Nodes.{Node, path_at}
use Rattle.cilk_machine_agree.proofs.spawn_laws.Lists.{range_more}
use Rattle.cilk_machine_agree.specs.model.ViewTrees.{in_order}
use Rattle.cilk_view.specs.Sorting.{IsMade, paths_in, AreMade}
use Rattle.cilk_view.proofs.Orders.{Ascends, up_from, up_in_order, count_in_order, one_list}

-- one instance more
pub made_more : (ns : List Node) (n : ℕ) (made now : List (Vec ℕ × ℕ)) (path : Vec ℕ) → AreMade ns n made → n < length ns → path.items ≡ path_at ns n
    → now ≡ made ++ (path, n) ∷ [] → AreMade ns (n + 1) now
made_more ns n made now path h there is grown =
    let next : n + 1 ≡ suc n = omega arith in
    let at : 0 + n ≡ n = omega arith in
    record {
      each = subst (All (IsMade ns)) (sym grown) (All-push (IsMade ns) made (path, n) h.each (there, is));
      paths = ap paths_in grown ∙ map-append (λ (one : Vec ℕ × ℕ). one.0.items) made ((path, n) ∷ [])
          ∙ (λ i. h.paths i ++ is i ∷ [])
          ∙ sym (ap (λ k. map (path_at ns) (range_with_len 0 k)) next ∙ ap (map (path_at ns)) (range_more 0 n)
          ∙ map-append (path_at ns) (range_with_len 0 n) ((0 + n) ∷ []) ∙ ap (λ k. map (path_at ns) (range_with_len 0 n) ++ path_at ns k ∷ []) at);
    }

abbrev by_pair : Vec ℕ × ℕ → Vec ℕ × ℕ → Ordering
by_pair x y = ordering_then (slice_cmp nat_cmp x.0.items y.0.items) (nat_cmp x.1 y.1)

first_decides : (r s : Ordering) → is_lt (ordering_then r s) ≡ false → is_lt r ≡ false
first_decides Less s e = e
first_decides Equal s e = refl
first_decides Greater s e = refl

ascends : (ys : List (Vec ℕ × ℕ)) → IsSorted by_pair ys → Ascends (paths_in ys)
ascends [] sorted = tt
ascends (x ∷ []) sorted = tt
ascends (x ∷ y ∷ ys) sorted = (
  first_decides (slice_cmp nat_cmp y.0.items x.0.items) (nat_cmp y.1 x.1) (sorted 0 x (omega arith) (omega arith)),
  ascends (y ∷ ys) (λ k d low high. next k d (sorted (suc k) d (omega arith) (omega (arith, high)))),
)
  where
    next : (k : ℕ) (d : Vec ℕ × ℕ) → is_lt (by_pair (slice_index_or (x ∷ y ∷ ys) (suc k + 1) d) (slice_index_or (x ∷ y ∷ ys) (suc k) d)) ≡ false
        → is_lt (by_pair (slice_index_or (y ∷ ys) (k + 1) d) (slice_index_or (y ∷ ys) k d)) ≡ false
    next k d e =
        let same : suc k + 1 ≡ suc (k + 1) = omega arith in
        subst (λ n. is_lt (by_pair (slice_index_or (x ∷ y ∷ ys) n d) (slice_index_or (y ∷ ys) k d)) ≡ false) same e

abbrev once : Bool → ℕ
once b = cond b 1 0

count_paths : (p : Path) (xs : List (Vec ℕ × ℕ)) → count_by (same_path p) (paths_in xs) ≡ sum_by (λ (one : Vec ℕ × ℕ). once (same_path p one.0.items)) xs
count_paths p [] = refl
count_paths p (x ∷ xs) =
    let a = sum_by-cons (λ (q : Path). once (same_path p q)) x.0.items (paths_in xs) in
    let b = sum_by-cons (λ (one : Vec ℕ × ℕ). once (same_path p one.0.items)) x xs in
    let c = count_paths p xs in
    omega (arith, a, b, c)

-- the paths in the order of a sort
pub sorted_are : (xs ys : List (Vec ℕ × ℕ)) → IsPermutation xs ys → IsSorted by_pair ys → paths_in ys ≡ in_order (paths_in xs)
sorted_are xs ys same sorted =
    one_list (paths_in ys) (in_order (paths_in xs)) (up_from (paths_in ys) (ascends ys sorted)) (up_in_order (paths_in xs))
    (λ p. count_paths p ys ∙ sum_by-IsPermutation (λ (one : Vec ℕ × ℕ). once (same_path p one.0.items)) xs ys same ∙ sym (count_paths p xs)
    ∙ sym (count_in_order p (paths_in xs)))
