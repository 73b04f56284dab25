-- What was moved between hands and deques is put back.
use Rattle.std.proofs.Common.{◌≡◌, ◌≢◌, ℕ, ◌-◌, List, [], ◌∷◌, ◌++◌, length, Option, Some, None, refl, sym, ap, ◌∙◌, arith, slice_set}
use Rattle.std.proofs.Common.{option_map, option_to_list}
use Rattle.std.proofs.lemmas.List.{set_comm}
use Rattle.cilk_machine_plan.specs.frame.Frames.{Frame}
use Rattle.cilk_machine_plan.specs.model.Hands.{WorkerOf, no_place, IsWorker, worker_at, hand_of, deque_of, with_hand, with_deque}
use Rattle.cilk_machine_plan.specs.model.Hands.{top_of, below_top, bottom_of, above_bottom, popped_by, stolen_by, pushed_by}
use Rattle.cilk_machine_plan.specs.Carried.{places_awake}
use Rattle.cilk_machine_plan.proofs.frame_laws.Bottoms.{bottom_of-push, above_bottom-push}
use Rattle.cilk_machine_plan.proofs.sched_laws.Seats.{hand-same, deque-same, hand-kept, deque-kept, workers-of-hand, workers-of-deque}
use Rattle.cilk_machine_plan.proofs.sched_laws.Seats.{others-of-hand, others-of-deque}
use Rattle.cilk_machine_plan.proofs.sched_laws.Back.{hand-back}
use Rattle.cilk_machine_plan.proofs.agree_laws.Frames.{hand-over, seat-over}
use Rattle.cilk_machine_undo.proofs.Back.{came_back}

above-and-bottom : (xs : List Frame) → above_bottom xs ++ option_to_list (bottom_of xs) ≡ xs
above-and-bottom [] = refl
above-and-bottom (x ∷ []) = refl
above-and-bottom (x ∷ y ∷ xs) = λ i. x ∷ above-and-bottom (y ∷ xs) i

top-and-below : (xs : List Frame) → option_to_list (top_of xs) ++ below_top xs ≡ xs
top-and-below [] = refl
top-and-below (x ∷ xs) = refl

module _ (places : List (WorkerOf Frame)) (w : ℕ) (worker : IsWorker places w) where
  -- a place that was changed as a whole
  seat-back : (now : List (WorkerOf Frame)) (x : WorkerOf Frame) (h : Option Frame) (d : List Frame) → now ≡ slice_set places (w - 1) x
      → IsWorker now w → h ≡ hand_of places w → d ≡ deque_of places w → with_hand (with_deque now w d) w h ≡ places
  seat-back now x h d is there hand deque =
      seat-over now w d h there ∙ (λ i. slice_set (is i) (w - 1) (record { hand = hand i; deque = deque i }))
      ∙ came_back no_place places (w - 1) x (λ _. worker_at places w) refl

  pub there-after : (now : List (WorkerOf Frame)) → length now ≡ length places → IsWorker now w
  there-after now size = record { from_one = worker.from_one; within = omega (arith, worker.within) }

  -- the hand was emptied, and another frame may have come
  pub hand-awake : (o : Option Frame) → hand_of (places_awake (with_hand places w None) w o) w ≡ o
  hand-awake None = hand-same places w None worker
  hand-awake (Some g) = ap (λ x. hand_of x w) (hand-over places w None (Some g) worker) ∙ hand-same places w (Some g) worker

  pub awake-back : (o : Option Frame) (f : Frame) → hand_of places w ≡ Some f
      → with_hand (places_awake (with_hand places w None) w o) w (Some f) ≡ places
  awake-back None f held = hand-back places w worker None (Some f) (sym held)
  awake-back (Some g) f held =
      ap (λ x. with_hand x w (Some f)) (hand-over places w None (Some g) worker) ∙ hand-back places w worker (Some g) (Some f) (sym held)

  -- x went to the bottom of the deque, and y came to the hand
  pub pushed-back : (f x y : Frame) (back : Frame → Frame) → hand_of places w ≡ Some f → back x ≡ f
      → (let now : List (WorkerOf Frame) = pushed_by places w x y in
      with_hand (with_deque now w (above_bottom (deque_of now w))) w (option_map back (bottom_of (deque_of now w))) ≡ places)
  pushed-back f x y back held e =
      let d = deque_of places w in
      let low : List (WorkerOf Frame) = with_deque places w (d ++ x ∷ []) in
      let now : List (WorkerOf Frame) = pushed_by places w x y in
      let low-worker : IsWorker low w = there-after low (workers-of-deque places w (d ++ x ∷ [])) in
      let queue : deque_of now w ≡ d ++ x ∷ [] = deque-kept low w (Some y) low-worker ∙ deque-same places w (d ++ x ∷ []) worker in
      seat-back now (record { hand = Some y; deque = d ++ x ∷ [] }) (option_map back (bottom_of (deque_of now w))) (above_bottom (deque_of now w))
      (seat-over places w (d ++ x ∷ []) (Some y) worker)
      (there-after now (workers-of-hand low w (Some y) ∙ workers-of-deque places w (d ++ x ∷ [])))
      (ap (λ q. option_map back (bottom_of q)) queue ∙ ap (option_map back) (bottom_of-push d x) ∙ ap Some e ∙ sym held)
      (ap above_bottom queue ∙ above_bottom-push d x)

  pub popped-back : hand_of places w ≡ None
      → (let now : List (WorkerOf Frame) = popped_by places w in
      with_hand (with_deque now w (deque_of now w ++ option_to_list (hand_of now w))) w None ≡ places)
  popped-back empty =
      let d = deque_of places w in
      let low : List (WorkerOf Frame) = with_deque places w (above_bottom d) in
      let now : List (WorkerOf Frame) = popped_by places w in
      let low-worker : IsWorker low w = there-after low (workers-of-deque places w (above_bottom d)) in
      let queue : deque_of now w ≡ above_bottom d = deque-kept low w (bottom_of d) low-worker ∙ deque-same places w (above_bottom d) worker in
      let hand : hand_of now w ≡ bottom_of d = hand-same low w (bottom_of d) low-worker in
      seat-back now (record { hand = bottom_of d; deque = above_bottom d }) None (deque_of now w ++ option_to_list (hand_of now w))
      (seat-over places w (above_bottom d) (bottom_of d) worker)
      (there-after now (workers-of-hand low w (bottom_of d) ∙ workers-of-deque places w (above_bottom d)))
      (sym empty) ((λ i. queue i ++ option_to_list (hand i)) ∙ above-and-bottom d)

  pub stolen-back : (v : ℕ) → IsWorker places v → v ≢ w → hand_of places w ≡ None
      → (let now : List (WorkerOf Frame) = stolen_by places w v in
      with_hand (with_deque now v (option_to_list (hand_of now w) ++ deque_of now v)) w None ≡ places)
  stolen-back v victim other empty =
      let d = deque_of places v in
      let low : List (WorkerOf Frame) = with_deque places v (below_top d) in
      let now : List (WorkerOf Frame) = stolen_by places w v in
      let size : length low ≡ length places = workers-of-deque places v (below_top d) in
      let low-worker : IsWorker low w = there-after low size in
      let low-victim : IsWorker low v = record { from_one = victim.from_one; within = omega (arith, victim.within) } in
      let hand : hand_of now w ≡ top_of d = hand-same low w (top_of d) low-worker in
      let seat : worker_at now v ≡ worker_at low v = others-of-hand low w v (top_of d) low-worker low-victim other in
      let queue : deque_of now v ≡ below_top d = ap (λ (p : WorkerOf Frame). p.deque) seat ∙ deque-same places v (below_top d) victim in
      let victims : hand_of now v ≡ hand_of places v = ap (λ (p : WorkerOf Frame). p.hand) seat ∙ hand-kept places v (below_top d) victim in
      let all : option_to_list (hand_of now w) ++ deque_of now v ≡ d = (λ i. option_to_list (hand i) ++ queue i) ∙ top-and-below d in
      let apart : w - 1 ≢ v - 1 = omega (arith, worker.from_one, victim.from_one) in
      let own : WorkerOf Frame = record { hand = top_of d; deque = deque_of low w } in
      let was : WorkerOf Frame = record { hand = hand_of places v; deque = d } in
      let given : with_deque now v (option_to_list (hand_of now w) ++ deque_of now v) ≡ slice_set places (w - 1) own =
      (λ i. slice_set now (v - 1) (record { hand = victims i; deque = all i }))
      ∙ set_comm low (w - 1) (v - 1) own was apart
      ∙ ap (λ (x : List (WorkerOf Frame)). slice_set x (w - 1) own)
      (came_back no_place places (v - 1) (record { hand = hand_of places v; deque = below_top d }) (λ _. was) refl) in
      let kept : deque_of low w ≡ deque_of places w =
      ap (λ (p : WorkerOf Frame). p.deque) (others-of-deque places v w (below_top d) victim worker (λ e. other (sym e))) in
      ap (λ x. with_hand x w None) (given ∙ (λ i. slice_set places (w - 1) (record { hand = top_of d; deque = kept i })))
      ∙ hand-back places w worker (top_of d) None (sym empty)
