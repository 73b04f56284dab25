-- Hands and deques that are the same place by place.
use Rattle.std.proofs.Common.{◌≡◌, ◌<◌, ℕ, suc, List, [], ◌∷◌, length, Some, refl, arith, slice_get, slice_index_or}
use Rattle.cilk_machine_agree.specs.frame.Frames.{Frame}
use Rattle.cilk_machine_agree.specs.spawn.Nodes.{Node}
use Rattle.cilk_machine_agree.specs.model.Hands.{WorkerOf, no_place}
use Rattle.cilk_machine_agree.specs.explore.Alike.{SameHeld, SameHand, SameDeque, SamePlaces}

module _ (ns ms : List Node) where
  pub deque_same : (fs gs : List Frame) → length fs ≡ length gs
      → ((k : ℕ) → k < length fs → (f g : Frame) → slice_get fs k ≡ Some f → slice_get gs k ≡ Some g → SameHeld ns ms f g) → SameDeque ns ms fs gs
  deque_same [] [] n h = tt
  deque_same [] (g ∷ gs) n h = absurd (omega (arith, n))
  deque_same (f ∷ fs) [] n h = absurd (omega (arith, n))
  deque_same (f ∷ fs) (g ∷ gs) n h =
      (h 0 (omega arith) f g refl refl, deque_same fs gs (omega (arith, n)) (λ k lt x y p q. h (suc k) (omega (arith, lt)) x y p q))

  -- what one worker has
  pub record SameAt (x y : WorkerOf Frame) : Type 0 where
    pub hand : SameHand ns ms x.hand y.hand
    pub deque : SameDeque ns ms x.deque y.deque

  pub places_same : (xs ys : List (WorkerOf Frame)) → length xs ≡ length ys
      → ((k : ℕ) → k < length xs → SameAt (slice_index_or xs k no_place) (slice_index_or ys k no_place)) → SamePlaces ns ms xs ys
  places_same [] [] n h = tt
  places_same [] (y ∷ ys) n h = absurd (omega (arith, n))
  places_same (x ∷ xs) [] n h = absurd (omega (arith, n))
  places_same (x ∷ xs) (y ∷ ys) n h =
      let first = h 0 (omega arith) in
      (first.hand, first.deque, places_same xs ys (omega (arith, n)) (λ k lt. h (suc k) (omega (arith, lt))))
