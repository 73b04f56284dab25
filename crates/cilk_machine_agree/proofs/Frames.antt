-- What holds of each frame of the workers holds after each move.
use Rattle.std.proofs.Common.{◌≡◌, ℕ, zero, suc, ◌-◌, List, [], ◌∷◌, Option, Some, None, refl, sym, subst, ◌∙◌}
use Rattle.std.specs.Prelude.{IfSome, All, slice_index_or, slice_set}
use Rattle.std.proofs.lemmas.List.Elements.{All-nil, All-cons, All-head, All-tail}
use Rattle.cilk_laws_model.specs.model.Path.{Path}
use Rattle.cilk_laws_model.specs.model.Scheduler as sched
use Rattle.cilk_sched.specs.frame.Frames.{Frame}
use Rattle.cilk_laws_model.specs.model.Hands.{WorkerOf, IsWorker, no_place, worker_at, hand_of, deque_of, with_hand, with_deque, bottom_of, above_bottom}
use Rattle.cilk_laws_model.specs.model.Hands.{top_of, below_top}
use Rattle.cilk_sched.specs.Count.{AllAt, AllHeld}
use Rattle.cilk_sched.proofs.Seats.{deque-kept, deque-same}

module _ (P : Frame → Type 0) where
  all_at : (places : List (WorkerOf Frame)) (k : ℕ) → All (AllAt P) places → AllAt P (slice_index_or places k no_place)
  all_at [] k h = (tt, All-nil P)
  all_at (y ∷ places) zero h = All-head (AllAt P) y places h
  all_at (y ∷ places) (suc k) h = all_at places k (All-tail (AllAt P) y places h)

  pub held-at : (places : List (WorkerOf Frame)) (w : ℕ) → AllHeld P places → AllAt P (worker_at places w)
  held-at places w h = all_at places (w - 1) h

  pub all-placed : (places : List (WorkerOf Frame)) (k : ℕ) (x : WorkerOf Frame) → All (AllAt P) places → AllAt P x → All (AllAt P) (slice_set places k x)
  all-placed [] k x h new = h
  all-placed (y ∷ places) zero x h new = All-cons (AllAt P) x places new (All-tail (AllAt P) y places h)
  all-placed (y ∷ places) (suc k) x h new =
      All-cons (AllAt P) y (slice_set places k x) (All-head (AllAt P) y places h) (all-placed places k x (All-tail (AllAt P) y places h) new)

  pub held-with_hand : (places : List (WorkerOf Frame)) (w : ℕ) (hand : Option Frame) → AllHeld P places → IfSome hand P → AllHeld P (with_hand places w hand)
  held-with_hand places w hand h new =
      all-placed places (w - 1) (record { hand = hand; deque = deque_of places w }) h (new, (held-at places w h).1)

  pub held-with_deque : (places : List (WorkerOf Frame)) (w : ℕ) (deque : List Frame) → AllHeld P places → All P deque → AllHeld P (with_deque places w deque)
  held-with_deque places w deque h new =
      all-placed places (w - 1) (record { hand = hand_of places w; deque = deque }) h ((held-at places w h).0, new)

  pub all-above : (deque : List Frame) → All P deque → All P (above_bottom deque)
  all-above [] h = h
  all-above (f ∷ []) h = All-nil P
  all-above (f ∷ g ∷ deque) h =
      All-cons P f (above_bottom (g ∷ deque)) (All-head P f (g ∷ deque) h) (all-above (g ∷ deque) (All-tail P f (g ∷ deque) h))

  pub all-bottom : (deque : List Frame) → All P deque → IfSome (bottom_of deque) P
  all-bottom [] h = tt
  all-bottom (f ∷ []) h = All-head P f [] h
  all-bottom (f ∷ g ∷ deque) h = all-bottom (g ∷ deque) (All-tail P f (g ∷ deque) h)

  pub all-below : (deque : List Frame) → All P deque → All P (below_top deque)
  all-below [] h = h
  all-below (f ∷ deque) h = All-tail P f deque h

  pub all-top : (deque : List Frame) → All P deque → IfSome (top_of deque) P
  all-top [] h = tt
  all-top (f ∷ deque) h = All-head P f deque h

seat_same : {A : Type 0} (d : A) (xs : List A) (k : ℕ) (x : A) → slice_index_or xs k d ≡ x → slice_set xs k x ≡ xs
seat_same d [] k x h = refl
seat_same d (y ∷ xs) zero x h = λ i. sym h i ∷ xs
seat_same d (y ∷ xs) (suc k) x h = λ i. y ∷ seat_same d xs k x h i

pub set_again : (places : List (WorkerOf Frame)) (k : ℕ) (x y : WorkerOf Frame) → slice_set (slice_set places k x) k y ≡ slice_set places k y
set_again [] k x y = refl
set_again (z ∷ places) zero x y = refl
set_again (z ∷ places) (suc k) x y = λ i. z ∷ set_again places k x y i

-- a hand that was emptied, and takes again what it held
pub given-back : (places : List (WorkerOf Frame)) (w : ℕ) → with_hand places w (hand_of places w) ≡ places
given-back places w = seat_same no_place places (w - 1) (record { hand = hand_of places w; deque = deque_of places w }) refl

pub hand-twice : (places : List (WorkerOf Frame)) (w : ℕ) (a b : Option Frame) → deque_of (with_hand places w a) w ≡ deque_of places w
    → with_hand (with_hand places w a) w b ≡ with_hand places w b
hand-twice places w a b same =
    (λ i. slice_set (with_hand places w a) (w - 1) (record { hand = b; deque = same i }))
    ∙ set_again places (w - 1) (record { hand = a; deque = deque_of places w }) (record { hand = b; deque = deque_of places w })

-- what a hand holds is put there again
pub hand-kept-by : (places : List sched.Worker) (w : ℕ) (p : Path) → sched.hand_of places w ≡ Some p → places ≡ sched.with_hand places w (Some p)
hand-kept-by places w p h =
    sym (seat_same sched.no_place places (w - 1) (record { hand = Some p; deque = sched.deque_of places w })
    (λ i. record { hand = h i; deque = sched.deque_of places w }))

both_in : (P Q : Frame → Type 0) (o : Option Frame) → IfSome o P → IfSome o Q → IfSome o (λ f. P f × Q f)
both_in P Q None a b = tt
both_in P Q (Some f) a b = (a, b)

-- both of two facts hold of each frame
pub held-both : (P Q : Frame → Type 0) (places : List (WorkerOf Frame)) → AllHeld P places → AllHeld Q places → AllHeld (λ f. P f × Q f) places
held-both P Q places h k = λ i d within.
    let a = h i d within in
    let b = k i d within in
    (both_in P Q (slice_index_or places i d).hand a.0 b.0, λ j c inside. (a.1 j c inside, b.1 j c inside))

-- a hand that was emptied takes another frame
pub hand-over : (places : List (WorkerOf Frame)) (w : ℕ) (a b : Option Frame) → IsWorker places w → with_hand (with_hand places w a) w b ≡ with_hand places w b
hand-over places w a b worker = hand-twice places w a b (deque-kept places w a worker)

pub seat-over : (places : List (WorkerOf Frame)) (w : ℕ) (deque : List Frame) (hand : Option Frame) → IsWorker places w
    → with_hand (with_deque places w deque) w hand ≡ slice_set places (w - 1) (record { hand = hand; deque = deque })
seat-over places w deque hand worker =
    (λ i. slice_set (with_deque places w deque) (w - 1) (record { hand = hand; deque = deque-same places w deque worker i }))
    ∙ set_again places (w - 1) (record { hand = hand_of places w; deque = deque }) (record { hand = hand; deque = deque })

-- a worker's whole place is another, and the others are as before
pub held-placed : (P : Frame → Type 0) (places : List (WorkerOf Frame)) (w : ℕ) (hand : Option Frame) (deque : List Frame) → IsWorker places w
    → AllHeld P (with_hand places w None) → IfSome hand P → All P deque → AllHeld P (with_hand (with_deque places w deque) w hand)
held-placed P places w hand deque worker rest one all =
    subst (AllHeld P) (set_again places (w - 1) (record { hand = None; deque = deque_of places w }) (record { hand = hand; deque = deque })
    ∙ sym (seat-over places w deque hand worker))
    (all-placed P (with_hand places w None) (w - 1) (record { hand = hand; deque = deque }) rest (one, all))
