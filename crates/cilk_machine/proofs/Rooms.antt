-- How many hands are empty, and how that changes.
use Rattle.std.proofs.Common.{◌≡◌, ◌≢◌, ◌≤◌, ◌<◌, ◌+◌, ◌-◌, ◌++◌, ◌∷◌, [], ℕ, zero, suc, Bool, true, false, cond, List, length, Option, Some, None, is_some}
use Rattle.std.proofs.Common.{refl, sym, ap, ◌∙◌, arith, slice_set, option_map, option_to_list}
use Rattle.std.specs.Prelude.{slice_index_or}
use Rattle.cilk_sched.specs.model.Hands.{WorkerOf, no_place, IsWorker, hand_of, deque_of, with_hand, with_deque, top_of, below_top, bottom_of}
use Rattle.cilk_sched.specs.model.Hands.{above_bottom, popped_by, stolen_by}
use Rattle.cilk_machine_undo.specs.frame.Frames.{Frame, stood}
use Rattle.cilk_machine_undo.specs.spawn.Nodes.{node_at}
use Rattle.cilk_machine_undo.specs.agree.Agrees.{MachineParts}
use Rattle.cilk_machine_undo.proofs.sched_laws.Seats.{index-lt, hand-kept, others-of-deque, workers-of-hand, workers-of-deque}
use Rattle.cilk_machine_undo.specs.Frames.{frame_before}
use Rattle.cilk_machine_undo.specs.Undo.{Undo, undone, acted, parked, spawned, ended, popped, stolen}
use Rattle.cilk_machine.specs.Kept.{idle_hands}

-- how many more a hand is that may be full
abbrev more_by : Bool → ℕ
more_by b = cond b 0 1

one_more : (a b : Bool) (n : ℕ) → n + more_by b ≤ n + more_by a + 1
one_more true true n = omega arith
one_more true false n = omega arith
one_more false true n = omega arith
one_more false false n = omega arith

at_most : (b : Bool) → more_by b ≤ 1
at_most true = omega arith
at_most false = omega arith

-- at most one more where one worker has something else
set_idle : (places : List (WorkerOf Frame)) (k : ℕ) (x : WorkerOf Frame) → idle_hands (slice_set places k x) ≤ idle_hands places + 1
set_idle [] k x = omega arith
set_idle (at ∷ places) zero x = one_more (is_some at.hand) (is_some x.hand) (idle_hands places)
set_idle (at ∷ places) (suc k) x = let rest = set_idle places k x in omega (arith, rest)

-- as many where its hand is as before
deque_idle : (places : List (WorkerOf Frame)) (k : ℕ) (deque : List Frame)
    → idle_hands (slice_set places k (record { hand = (slice_index_or places k no_place).hand; deque = deque })) ≡ idle_hands places
deque_idle [] k deque = refl
deque_idle (at ∷ places) zero deque = refl
deque_idle (at ∷ places) (suc k) deque = ap (λ n. n + more_by (is_some at.hand)) (deque_idle places k deque)

-- one less where it was empty and is full
filled : (places : List (WorkerOf Frame)) (k : ℕ) (x : WorkerOf Frame) → k < length places → (slice_index_or places k no_place).hand ≡ None
    → is_some x.hand ≡ true → idle_hands (slice_set places k x) + 1 ≡ idle_hands places
filled [] k x inside empty full = absurd (omega arith)
filled (at ∷ places) zero x inside empty full =
    let was : more_by (is_some at.hand) ≡ 1 = ap (λ (o : Option Frame). more_by (is_some o)) empty in
    let now : more_by (is_some x.hand) ≡ 0 = ap more_by full in
    omega (arith, was, now)
filled (at ∷ places) (suc k) x inside empty full =
    let rest = filled places k x (omega arith) empty full in
    omega (arith, rest)

pub few-idle : (places : List (WorkerOf Frame)) → idle_hands places ≤ length places
few-idle [] = omega arith
few-idle (at ∷ places) =
    let rest = few-idle places in
    let one = at_most (is_some at.hand) in
    omega (arith, rest, one)

module _ (places : List (WorkerOf Frame)) (w : ℕ) (worker : IsWorker places w) (empty : hand_of places w ≡ None) where
  pub pop-fills : (f : Frame) → bottom_of (deque_of places w) ≡ Some f → idle_hands (popped_by places w) + 1 ≡ idle_hands places
  pop-fills f is =
      let low : List (WorkerOf Frame) = with_deque places w (above_bottom (deque_of places w)) in
      let size : length low ≡ length places = workers-of-deque places w (above_bottom (deque_of places w)) in
      let inside : w - 1 < length low = omega (arith, index-lt places w worker, size) in
      filled low (w - 1) (record { hand = bottom_of (deque_of places w); deque = deque_of low w }) inside
      (hand-kept places w (above_bottom (deque_of places w)) worker ∙ empty) (ap is_some is)
      ∙ deque_idle places (w - 1) (above_bottom (deque_of places w))

  pub steal-fills : (v : ℕ) (f : Frame) → IsWorker places v → v ≢ w → top_of (deque_of places v) ≡ Some f
      → idle_hands (stolen_by places w v) + 1 ≡ idle_hands places
  steal-fills v f victim other is =
      let low : List (WorkerOf Frame) = with_deque places v (below_top (deque_of places v)) in
      let size : length low ≡ length places = workers-of-deque places v (below_top (deque_of places v)) in
      let inside : w - 1 < length low = omega (arith, index-lt places w worker, size) in
      let kept : hand_of low w ≡ hand_of places w =
      ap (λ (x : WorkerOf Frame). x.hand) (others-of-deque places v w (below_top (deque_of places v)) victim worker (λ e. other (sym e))) in
      filled low (w - 1) (record { hand = top_of (deque_of places v); deque = deque_of low w }) inside (kept ∙ empty) (ap is_some is)
      ∙ deque_idle places (v - 1) (below_top (deque_of places v))

-- a hand and a deque
two_idle : (places : List (WorkerOf Frame)) (w v : ℕ) (hand : Option Frame) (deque : List Frame)
    → idle_hands (with_hand (with_deque places v deque) w hand) ≤ idle_hands places + 1
two_idle places w v hand deque =
    let low : List (WorkerOf Frame) = with_deque places v deque in
    let same : idle_hands low ≡ idle_hands places = deque_idle places (v - 1) deque in
    let one : idle_hands (with_hand low w hand) ≤ idle_hands low + 1 = set_idle low (w - 1) (record { hand = hand; deque = deque_of low w }) in
    omega (arith, same, one)

two_crew : (places : List (WorkerOf Frame)) (w v : ℕ) (hand : Option Frame) (deque : List Frame)
    → length (with_hand (with_deque places v deque) w hand) ≡ length places
two_crew places w v hand deque = workers-of-hand (with_deque places v deque) w hand ∙ workers-of-deque places v deque

hand_idle : (places : List (WorkerOf Frame)) (w : ℕ) (hand : Option Frame) → idle_hands (with_hand places w hand) ≤ idle_hands places + 1
hand_idle places w hand = set_idle places (w - 1) (record { hand = hand; deque = deque_of places w })

-- where a choice is taken back, a hand at most becomes empty
pub back-idle : (u : Undo) (m : MachineParts) → idle_hands (undone u m).places ≤ idle_hands m.places + 1
back-idle (acted w change family beside) m = hand_idle m.places w (option_map (frame_before change) (hand_of m.places w))
back-idle (parked w k) m = hand_idle m.places w (node_at m.nodes k).parked
back-idle (spawned w k n flag) m =
    two_idle m.places w w (option_map (stood n flag) (bottom_of (deque_of m.places w))) (above_bottom (deque_of m.places w))
back-idle (ended w of) m = hand_idle m.places w (Some of.frame)
back-idle (popped w) m = two_idle m.places w w None (deque_of m.places w ++ option_to_list (hand_of m.places w))
back-idle (stolen w v) m = two_idle m.places w v None (option_to_list (hand_of m.places w) ++ deque_of m.places v)

pub back-crew : (u : Undo) (m : MachineParts) → length (undone u m).places ≡ length m.places
back-crew (acted w change family beside) m = workers-of-hand m.places w (option_map (frame_before change) (hand_of m.places w))
back-crew (parked w k) m = workers-of-hand m.places w (node_at m.nodes k).parked
back-crew (spawned w k n flag) m =
    two_crew m.places w w (option_map (stood n flag) (bottom_of (deque_of m.places w))) (above_bottom (deque_of m.places w))
back-crew (ended w of) m = workers-of-hand m.places w (Some of.frame)
back-crew (popped w) m = two_crew m.places w w None (deque_of m.places w ++ option_to_list (hand_of m.places w))
back-crew (stolen w v) m = two_crew m.places w v None (option_to_list (hand_of m.places w) ++ deque_of m.places v)
