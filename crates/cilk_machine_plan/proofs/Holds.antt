-- The frame in a hand is changed where it is.
use Rattle.std.proofs.Common.{◌≡◌, ℕ, List, Some, sym, ap, ◌∙◌}
use Rattle.cilk_machine_agree.specs.model.Hands.{WorkerOf, IsWorker, hand_of, with_hand}
use Rattle.cilk_machine_agree.specs.frame.Frames.{Frame}
use Rattle.cilk_machine_agree.proofs.sched_laws.Seats.{hand-same}
use Rattle.cilk_machine_agree.proofs.Frames.{hand-over}
use Rattle.cilk_machine_plan.specs.Ready.{frame_of, frame_in}

module _ (places : List (WorkerOf Frame)) (w : ℕ) where
  pub held-now : IsWorker places w → (f : Frame) → frame_in (with_hand places w (Some f)) w ≡ f
  held-now worker f = ap frame_of (hand-same places w (Some f) worker)

  -- the frame went on as g, and is changed then
  pub written : IsWorker places w → (g : Frame) (h : Frame → Frame) (gone now : List (WorkerOf Frame)) → gone ≡ with_hand places w (Some g)
      → now ≡ with_hand gone w (Some (h (frame_in gone w))) → now ≡ with_hand places w (Some (h g))
  written worker g h gone now goes is =
      is ∙ (λ j. with_hand (goes j) w (Some (h (frame_in (goes j) w)))) ∙ ap (λ f. with_hand (with_hand places w (Some g)) w (Some (h f))) (held-now worker g)
      ∙ hand-over places w (Some g) (Some (h g)) worker

  pub there : (f : Frame) → hand_of places w ≡ Some f → hand_of places w ≡ Some (frame_in places w)
  there f held = held ∙ sym (ap Some (ap frame_of held))
