-- An order of the workers of one machine in which the first have what those of another have.
use Rattle.std.proofs.Common.{◌≡◌, ◌<◌, ◌≤◌, ◌+◌, ◌-◌, ℕ, List, length, map, sym, ap, ◌∙◌, subst, arith, slice_index, slice_index_or}
use Rattle.std.proofs.Common.{IsPermutation, below_more, ext_get_or}
use Rattle.std.specs.Prelude.{All}
use Rattle.std.specs.List.{SwappedAt}
use Rattle.std.proofs.lemmas.List.{get_or-map, get_or_default, length-map}
use Rattle.std.proofs.lemmas.List.Sorted.{All-permutation, IsPermutation-refl, IsPermutation-trans, IsPermutation-map}
use Rattle.cilk_machine_agree.specs.frame.Frames.{Frame}
use Rattle.cilk_machine_agree.specs.spawn.Nodes.{Node}
use Rattle.cilk_machine_agree.specs.model.Hands.{WorkerOf, IsWorker, no_place, worker_at}
use Rattle.cilk_machine_agree.specs.explore.Alike.{SamePlacesBut}
use Rattle.cilk_machine_agree.proofs.Sames.{SameAt, places_same}

module _ (ns ms : List Node) (xs ys : List (WorkerOf Frame)) where
  -- these are the numbers of all workers here, and the first k of them have what the first k workers there have
  pub record Matched (order : List ℕ) (k : ℕ) : Type 0 where
    pub all : IsPermutation xs (map (worker_at xs) order)
    pub within : All (IsWorker xs) order
    pub same : (i : ℕ) → i < k → SameAt ns ms (worker_at xs (slice_index order i)) (slice_index_or ys i no_place)

  number_is : (order : List ℕ) (i : ℕ) → slice_index order i ≡ i + 1 → worker_at xs (slice_index order i) ≡ slice_index_or xs i no_place
  number_is order i e = let less : slice_index order i - 1 ≡ i = omega (arith, e) in ap (λ m. slice_index_or xs m no_place) less

  -- by their numbers from 1 on
  pub matched_none : (order : List ℕ) → length order ≡ length xs → ((i : ℕ) → i < length order → slice_index order i ≡ i + 1) → Matched order 0
  matched_none order long numbers =
      let is : map (worker_at xs) order ≡ xs =
      ext_get_or no_place (map (worker_at xs) order) xs (length-map order (worker_at xs) ∙ long)
      (λ i lt.
      let inside : i < length order = omega (arith, lt, length-map order (worker_at xs)) in
      get_or-map (worker_at xs) order i 0 no_place inside ∙ number_is order i (numbers i inside)) in
      record {
        all = subst (IsPermutation xs) (sym is) (IsPermutation-refl xs);
        within = λ i d lt.
            let number : slice_index_or order i d ≡ i + 1 = get_or_default order i d 0 lt ∙ numbers i lt in
            record { from_one = omega (arith, number); within = omega (arith, number, lt, long) };
        same = λ i lt. absurd (omega (arith, lt));
      }

  -- one that stands behind them comes to be the next
  pub matched_more : (order now : List ℕ) (k j : ℕ) → Matched order k → k ≤ j → IsPermutation order now → SwappedAt order now k j
      → SameAt ns ms (worker_at xs (slice_index order j)) (worker_at ys (k + 1)) → Matched now (k + 1)
  matched_more order now k j m left order_of swapped here = record {
    all = IsPermutation-trans xs (map (worker_at xs) order) (map (worker_at xs) now) m.all (IsPermutation-map (worker_at xs) order now order_of);
    within = All-permutation (IsWorker xs) order now order_of m.within;
    same = below_more _ k
        (λ i lt.
        let stays : slice_index now i ≡ slice_index order i = swapped.2 i 0 (λ e. omega (arith, e, lt)) (λ e. omega (arith, e, lt, left)) in
        subst (λ w. SameAt ns ms (worker_at xs w) (slice_index_or ys i no_place)) (sym stays) (m.same i lt))
        (let less : k + 1 - 1 ≡ k = omega arith in
        let there = subst (λ l. SameAt ns ms (worker_at xs (slice_index order j)) (slice_index_or ys l no_place)) less here in
        subst (λ w. SameAt ns ms (worker_at xs w) (slice_index_or ys k no_place)) (sym (swapped.0 0)) there);
  }

  -- all have it
  pub matched_all : (order : List ℕ) (k : ℕ) → length order ≡ length ys → k ≡ length ys → Matched order k → SamePlacesBut ns ms xs ys
  matched_all order k long end m =
      let size = length-map order (worker_at xs) in
      record {
        places = map (worker_at xs) order;
        order = m.all;
        same = places_same ns ms (map (worker_at xs) order) ys (size ∙ long)
            (λ i lt.
            subst (λ x. SameAt ns ms x (slice_index_or ys i no_place)) (sym (get_or-map (worker_at xs) order i 0 no_place (omega (arith, lt, size))))
            (m.same i (omega (arith, lt, size, long, end))));
      }
