-- Moves are undone.
use Rattle.std.proofs.Common.{◌≡◌, ℕ, ◌-◌, List, [], ◌∷◌, ◌++◌, Option, Some, None, sym, ap, ◌∙◌, slice_set, option_map}
use Rattle.std.specs.Prelude.{slice_index_or}
use Rattle.std.proofs.lemmas.List.{set-set, set-get_or}
use Rattle.cilk_frame.specs.Frames.{Frame}
use Rattle.cilk_frame.specs.model.Hands.{WorkerOf, no_place, IsWorker, hand_of, deque_of, with_hand, with_deque, top_of, below_top, bottom_of, above_bottom}
use Rattle.cilk_frame.proofs.Bottoms.{bottom_of-push, above_bottom-push}
use Rattle.cilk_sched.proofs.Seats.{hand-same, deque-same, hand-kept, deque-kept}

-- what stood in one place of a list is put there again
came_back : {A : Type 0} (d : A) (xs : List A) (k : ℕ) (x y : A) → y ≡ slice_index_or xs k d → slice_set (slice_set xs k x) k y ≡ xs
came_back d xs k x y e = set-set xs k x y ∙ ap (slice_set xs k) e ∙ set-get_or xs k d

module _ (places : List (WorkerOf Frame)) (w : ℕ) (worker : IsWorker places w) where
  pub hand-back : (x y : Option Frame) → y ≡ hand_of places w → with_hand (with_hand places w x) w y ≡ places
  hand-back x y e =
      came_back no_place places (w - 1) (record { hand = x; deque = deque_of places w }) (record { hand = y; deque = deque_of (with_hand places w x) w })
      (λ i. record { hand = e i; deque = deque-kept places w x worker i })

  pub deque-back : (x y : List Frame) → y ≡ deque_of places w → with_deque (with_deque places w x) w y ≡ places
  deque-back x y e =
      came_back no_place places (w - 1) (record { hand = hand_of places w; deque = x }) (record { hand = hand_of (with_deque places w x) w; deque = y })
      (λ i. record { hand = hand-kept places w x worker i; deque = e i })

  pub changes-back : (f g : Frame) (back : Frame → Frame) → hand_of places w ≡ Some f → back g ≡ f
      → with_hand (with_hand places w (Some g)) w (option_map back (hand_of (with_hand places w (Some g)) w)) ≡ places
  changes-back f g back held e =
      hand-back (Some g) (option_map back (hand_of (with_hand places w (Some g)) w))
      (ap (option_map back) (hand-same places w (Some g) worker) ∙ ap Some e ∙ sym held)

above_and_bottom : (deque : List Frame) (f : Frame) → bottom_of deque ≡ Some f → above_bottom deque ++ f ∷ [] ≡ deque
above_and_bottom [] f e = let no : None ≡ Some f = e in cc
above_and_bottom (g ∷ []) f e = let same : g ≡ f = cc in λ i. sym same i ∷ []
above_and_bottom (g ∷ h ∷ deque) f e = λ i. g ∷ above_and_bottom (h ∷ deque) f e i

top_and_below : (deque : List Frame) (f : Frame) → top_of deque ≡ Some f → f ∷ below_top deque ≡ deque
top_and_below [] f e = let no : None ≡ Some f = e in cc
top_and_below (g ∷ deque) f e = let same : g ≡ f = cc in λ i. sym same i ∷ deque

pub pushes-back : (places : List (WorkerOf Frame)) (w : ℕ) (f : Frame) → IsWorker places w
    → (let now : List (WorkerOf Frame) = with_deque places w (deque_of places w ++ f ∷ []) in
    (bottom_of (deque_of now w) ≡ Some f) × (with_deque now w (above_bottom (deque_of now w)) ≡ places))
pushes-back places w f worker =
    let more = deque_of places w ++ f ∷ [] in
    let there = deque-same places w more worker in (
      ap bottom_of there ∙ bottom_of-push (deque_of places w) f,
      deque-back places w worker more (above_bottom (deque_of (with_deque places w more) w)) (ap above_bottom there ∙ above_bottom-push (deque_of places w) f),
    )

pub pops-back : (places : List (WorkerOf Frame)) (w : ℕ) (f : Frame) → IsWorker places w → bottom_of (deque_of places w) ≡ Some f
    → (let now : List (WorkerOf Frame) = with_deque places w (above_bottom (deque_of places w)) in
    with_deque now w (deque_of now w ++ f ∷ []) ≡ places)
pops-back places w f worker is =
    let rest = above_bottom (deque_of places w) in
    deque-back places w worker rest (deque_of (with_deque places w rest) w ++ f ∷ [])
    (ap (λ (d : List Frame). d ++ f ∷ []) (deque-same places w rest worker) ∙ above_and_bottom (deque_of places w) f is)

pub steals-back : (places : List (WorkerOf Frame)) (v : ℕ) (f : Frame) → IsWorker places v → top_of (deque_of places v) ≡ Some f
    → (let now : List (WorkerOf Frame) = with_deque places v (below_top (deque_of places v)) in
    with_deque now v (f ∷ deque_of now v) ≡ places)
steals-back places v f worker is =
    let rest = below_top (deque_of places v) in
    deque-back places v worker rest (f ∷ deque_of (with_deque places v rest) v)
    (ap (λ (d : List Frame). f ∷ d) (deque-same places v rest worker) ∙ top_and_below (deque_of places v) f is)
