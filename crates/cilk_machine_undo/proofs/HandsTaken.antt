-- A frame in a hand is changed twice, or leaves it for a deque or for the tree.
use Rattle.std.proofs.Common.{◌≡◌, ◌≢◌, ◌-◌, ◌++◌, ◌∷◌, [], ℕ, List, Option, Some, None, sym, ap, ◌∙◌, arith, slice_set, option_map, option_to_list}
use Rattle.std.proofs.lemmas.List.{set_comm}
use Rattle.cilk_machine_plan.specs.frame.Frames.{Frame}
use Rattle.cilk_machine_plan.specs.model.Hands.{WorkerOf, IsWorker, hand_of, deque_of, with_hand, with_deque, bottom_of, above_bottom}
use Rattle.cilk_machine_plan.proofs.sched_laws.Seats.{hand-same, deque-kept, others-of-hand, others-of-deque, workers-of-hand}
use Rattle.cilk_machine_plan.proofs.sched_laws.Back.{hand-back}
use Rattle.cilk_machine_plan.proofs.agree_laws.Frames.{hand-over, seat-over, set_again}
use Rattle.cilk_machine_undo.proofs.HandsBack.{there-after}

module _ (places : List (WorkerOf Frame)) (w : ℕ) (worker : IsWorker places w) where
  pub then-mapped : (g : Frame) (h : Frame → Frame) (now later : List (WorkerOf Frame)) → now ≡ with_hand places w (Some g)
      → later ≡ with_hand now w (option_map h (hand_of now w)) → later ≡ with_hand places w (Some (h g))
  then-mapped g h now later goes is =
      is ∙ (λ j. with_hand (goes j) w (option_map h (hand_of (goes j) w)))
      ∙ ap (λ o. with_hand (with_hand places w (Some g)) w (option_map h o)) (hand-same places w (Some g) worker)
      ∙ hand-over places w (Some g) (Some (h g)) worker

  pub as-mapped : (f : Frame) (h : Frame → Frame) → hand_of places w ≡ Some f
      → with_hand places w (Some (h f)) ≡ with_hand places w (option_map h (hand_of places w))
  as-mapped f h held = ap (λ o. with_hand places w (option_map h o)) (sym held)

  -- what took the frame out and gave it back left all as it was
  pub given-again : (f g : Frame) (rest part now : List (WorkerOf Frame)) → hand_of places w ≡ Some f → rest ≡ with_hand places w None → part ≡ rest → g ≡ f
      → now ≡ with_hand part w (Some g) → now ≡ places
  given-again f g rest part now held emptied same back is =
      is ∙ (λ j. with_hand ((same ∙ emptied) j) w (Some (back j))) ∙ hand-back places w worker None (Some f) (sym held)

  abbrev empty : List (WorkerOf Frame)
  empty = with_hand places w None

  -- the hand is emptied first, or last
  emptied-deque : (d : List Frame) → with_deque empty w d ≡ with_hand (with_deque places w d) w None
  emptied-deque d =
      (λ j. slice_set empty (w - 1) (record { hand = hand-same places w None worker j; deque = d }))
      ∙ set_again places (w - 1) (record { hand = None; deque = deque_of places w }) (record { hand = None; deque = d })
      ∙ sym (seat-over places w d None worker)

  filled-deque : (d : List Frame) (h : Option Frame) → with_hand (with_deque empty w d) w h ≡ with_hand (with_deque places w d) w h
  filled-deque d h =
      seat-over empty w d h (there-after places w worker empty (workers-of-hand places w None))
      ∙ set_again places (w - 1) (record { hand = None; deque = deque_of places w }) (record { hand = h; deque = d })
      ∙ sym (seat-over places w d h worker)

  pub pushed-down : (f : Frame) (rest now : List (WorkerOf Frame)) → hand_of places w ≡ Some f → rest ≡ empty
      → now ≡ with_deque rest w (deque_of rest w ++ f ∷ [])
      → now ≡ with_hand (with_deque places w (deque_of places w ++ option_to_list (hand_of places w))) w None
  pushed-down f rest now held emptied is =
      is ∙ (λ j. with_deque (emptied j) w (deque_of (emptied j) w ++ f ∷ []))
      ∙ (λ j. with_deque empty w (deque-kept places w None worker j ++ f ∷ [])) ∙ emptied-deque (deque_of places w ++ f ∷ [])
      ∙ ap (λ o. with_hand (with_deque places w (deque_of places w ++ option_to_list o)) w None) (sym held)

  pub pushed-up : (v : ℕ) (f : Frame) (rest now : List (WorkerOf Frame)) → IsWorker places v → v ≢ w → hand_of places w ≡ Some f → rest ≡ empty
      → now ≡ with_deque rest v (f ∷ deque_of rest v)
      → now ≡ with_hand (with_deque places v (option_to_list (hand_of places w) ++ deque_of places v)) w None
  pushed-up v f rest now victim other held emptied is =
      let d = f ∷ deque_of places v in
      let seat = others-of-hand places w v None worker victim other in
      let apart : w - 1 ≢ v - 1 = omega (arith, worker.from_one, victim.from_one) in
      is ∙ (λ j. with_deque (emptied j) v (f ∷ deque_of (emptied j) v))
      ∙ (λ j. slice_set empty (v - 1) (record { hand = (seat j).hand; deque = f ∷ (seat j).deque }))
      ∙ set_comm places (w - 1) (v - 1) (record { hand = None; deque = deque_of places w }) (record { hand = hand_of places v; deque = d }) apart
      ∙ (λ j. slice_set (with_deque places v d) (w - 1)
      (record { hand = None; deque = (sym (others-of-deque places v w d victim worker (λ e. other (sym e))) j).deque }))
      ∙ ap (λ o. with_hand (with_deque places v (option_to_list o ++ deque_of places v)) w None) (sym held)

  -- the child in the hand is gone, and the lowest frame is taken out of the deque
  module _ (rest low : List (WorkerOf Frame)) (o : Option Frame) (emptied : rest ≡ empty) (lowest : o ≡ bottom_of (deque_of rest w))
      (taken : low ≡ with_deque rest w (above_bottom (deque_of rest w))) where
    lowest-is : o ≡ bottom_of (deque_of places w)
    lowest-is = lowest ∙ (λ j. bottom_of (deque_of (emptied j) w)) ∙ ap bottom_of (deque-kept places w None worker)

    low-is : low ≡ with_deque empty w (above_bottom (deque_of places w))
    low-is =
        taken ∙ (λ j. with_deque (emptied j) w (above_bottom (deque_of (emptied j) w)))
        ∙ ap (λ d. with_deque empty w (above_bottom d)) (deque-kept places w None worker)

    pub none-came : (h : Frame → Frame) → o ≡ None
        → low ≡ with_hand (with_deque places w (above_bottom (deque_of places w))) w (option_map h (bottom_of (deque_of places w)))
    none-came h none =
        low-is ∙ emptied-deque (above_bottom (deque_of places w))
        ∙ ap (λ b. with_hand (with_deque places w (above_bottom (deque_of places w))) w (option_map h b)) (sym none ∙ lowest-is)

    pub parent-came : (h : Frame → Frame) (f g : Frame) (now : List (WorkerOf Frame)) → o ≡ Some f → g ≡ h f → now ≡ with_hand low w (Some g)
        → now ≡ with_hand (with_deque places w (above_bottom (deque_of places w))) w (option_map h (bottom_of (deque_of places w)))
    parent-came h f g now some same is =
        is ∙ (λ j. with_hand (low-is j) w (Some (same j))) ∙ filled-deque (above_bottom (deque_of places w)) (Some (h f))
        ∙ ap (λ b. with_hand (with_deque places w (above_bottom (deque_of places w))) w (option_map h b)) (sym some ∙ lowest-is)
