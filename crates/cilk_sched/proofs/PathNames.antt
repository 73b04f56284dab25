-- Frames and the paths that name them go on together.
use Rattle.std.proofs.Common.{◌≡◌, ℕ, zero, suc, ◌-◌, Bool, cond, List, [], ◌∷◌, ◌++◌, length, map, Option, Some, None, refl, sym, ap, ◌∙◌, arith}
use Rattle.std.proofs.Common.{slice_set, sum_by, count_by}
use Rattle.std.specs.Prelude.{replicate, option_map, All, IfSome}
use Rattle.std.proofs.lemmas.List.{map-set, map-append, length-map}
use Rattle.std.proofs.lemmas.List.Sums.{sum_by-cons}
use Rattle.std.proofs.lemmas.List.Elements.{All-head, All-tail}
use Rattle.std.proofs.Math.ListN.{get_or-map}
use Rattle.cilk_frame.specs.model.Path.{Path, same_path}
use Rattle.cilk_frame.specs.model.Scheduler as model
use Rattle.cilk_frame.specs.Frames.{Frame}
use Rattle.cilk_frame.specs.model.Hands.{WorkerOf, no_place, worker_at, hand_of, deque_of, with_hand, with_deque, top_of, below_top, bottom_of, above_bottom}
use Rattle.cilk_sched.specs.Count.{once, times_held, count_where, AllAt, AllHeld}
use Rattle.cilk_frame.specs.model.Hands.{place_named, named}

pub named-worker_at : (name : Frame → Path) (places : List (WorkerOf Frame)) (w : ℕ)
    → model.worker_at (named name places) w ≡ place_named name (worker_at places w)
named-worker_at name places w = get_or-map (place_named name) places (w - 1) no_place

pub named-length : (name : Frame → Path) (places : List (WorkerOf Frame)) → length (named name places) ≡ length places
named-length name places = length-map places (place_named name)

pub hand_of-named : (name : Frame → Path) (places : List (WorkerOf Frame)) (w : ℕ) → model.hand_of (named name places) w ≡ option_map name (hand_of places w)
hand_of-named name places w = ap (λ (x : WorkerOf Path). x.hand) (named-worker_at name places w)

pub deque_of-named : (name : Frame → Path) (places : List (WorkerOf Frame)) (w : ℕ) → model.deque_of (named name places) w ≡ map name (deque_of places w)
deque_of-named name places w = ap (λ (x : WorkerOf Path). x.deque) (named-worker_at name places w)

pub named-with_hand : (name : Frame → Path) (places : List (WorkerOf Frame)) (w : ℕ) (hand : Option Frame)
    → named name (with_hand places w hand) ≡ model.with_hand (named name places) w (option_map name hand)
named-with_hand name places w hand =
    map-set (place_named name) places (w - 1) (record { hand = hand; deque = deque_of places w })
    ∙ ap (λ (x : WorkerOf Path). slice_set (named name places) (w - 1) (record { hand = option_map name hand; deque = x.deque }))
    (sym (named-worker_at name places w))

pub named-with_deque : (name : Frame → Path) (places : List (WorkerOf Frame)) (w : ℕ) (deque : List Frame)
    → named name (with_deque places w deque) ≡ model.with_deque (named name places) w (map name deque)
named-with_deque name places w deque =
    map-set (place_named name) places (w - 1) (record { hand = hand_of places w; deque = deque })
    ∙ ap (λ (x : WorkerOf Path). slice_set (named name places) (w - 1) (record { hand = x.hand; deque = map name deque }))
    (sym (named-worker_at name places w))

-- the ends of a deque
pub named-top : (name : Frame → Path) (deque : List Frame) → option_map name (top_of deque) ≡ model.top_of (map name deque)
named-top name [] = refl
named-top name (f ∷ deque) = refl

pub named-below_top : (name : Frame → Path) (deque : List Frame) → map name (below_top deque) ≡ model.below_top (map name deque)
named-below_top name [] = refl
named-below_top name (f ∷ deque) = refl

pub named-bottom : (name : Frame → Path) (deque : List Frame) → option_map name (bottom_of deque) ≡ model.bottom_of (map name deque)
named-bottom name [] = refl
named-bottom name (f ∷ []) = refl
named-bottom name (f ∷ g ∷ deque) = named-bottom name (g ∷ deque)

pub named-above_bottom : (name : Frame → Path) (deque : List Frame) → map name (above_bottom deque) ≡ model.above_bottom (map name deque)
named-above_bottom name [] = refl
named-above_bottom name (f ∷ []) = refl
named-above_bottom name (f ∷ g ∷ deque) = ap (λ ps. name f ∷ ps) (named-above_bottom name (g ∷ deque))

-- what each move makes of the paths
pub named-none : (name : Frame → Path) (n : ℕ) → named name (replicate n no_place) ≡ replicate n model.no_place
named-none name zero = refl
named-none name (suc n) = ap (λ ps. model.no_place ∷ ps) (named-none name n)

pub named-push : (name : Frame → Path) (places : List (WorkerOf Frame)) (w : ℕ) (f : Frame)
    → named name (with_deque places w (deque_of places w ++ f ∷ []))
    ≡ model.with_deque (named name places) w (model.deque_of (named name places) w ++ name f ∷ [])
named-push name places w f =
    named-with_deque name places w (deque_of places w ++ f ∷ [])
    ∙ ap (model.with_deque (named name places) w)
    (map-append name (deque_of places w) (f ∷ []) ∙ ap (λ (x : WorkerOf Path). x.deque ++ name f ∷ []) (sym (named-worker_at name places w)))

pub named-pop : (name : Frame → Path) (places : List (WorkerOf Frame)) (w : ℕ)
    → named name (with_deque places w (above_bottom (deque_of places w)))
    ≡ model.with_deque (named name places) w (model.above_bottom (model.deque_of (named name places) w))
named-pop name places w =
    named-with_deque name places w (above_bottom (deque_of places w))
    ∙ ap (model.with_deque (named name places) w)
    (named-above_bottom name (deque_of places w) ∙ ap (λ (x : WorkerOf Path). model.above_bottom x.deque)
    (sym (named-worker_at name places w)))

pub named-steal : (name : Frame → Path) (places : List (WorkerOf Frame)) (v : ℕ)
    → named name (with_deque places v (below_top (deque_of places v)))
    ≡ model.with_deque (named name places) v (model.below_top (model.deque_of (named name places) v))
named-steal name places v =
    named-with_deque name places v (below_top (deque_of places v))
    ∙ ap (model.with_deque (named name places) v)
    (named-below_top name (deque_of places v) ∙ ap (λ (x : WorkerOf Path). model.below_top x.deque) (sym (named-worker_at name places v)))

pub bottom-named : (name : Frame → Path) (places : List (WorkerOf Frame)) (w : ℕ)
    → option_map name (bottom_of (deque_of places w)) ≡ model.bottom_of (model.deque_of (named name places) w)
bottom-named name places w =
    named-bottom name (deque_of places w) ∙ ap (λ (x : WorkerOf Path). model.bottom_of x.deque) (sym (named-worker_at name places w))

pub top-named : (name : Frame → Path) (places : List (WorkerOf Frame)) (v : ℕ)
    → option_map name (top_of (deque_of places v)) ≡ model.top_of (model.deque_of (named name places) v)
top-named name places v =
    named-top name (deque_of places v) ∙ ap (λ (x : WorkerOf Path). model.top_of x.deque) (sym (named-worker_at name places v))

-- a pop and a steal, each with the hand that it fills
pub named-popped : (name : Frame → Path) (parked : Path → Bool) (places : List (WorkerOf Frame)) (w : ℕ)
    → named name (with_hand (with_deque places w (above_bottom (deque_of places w))) w (bottom_of (deque_of places w)))
    ≡ (model.popped (record { places = named name places; parked = parked }) w).places
named-popped name parked places w =
    named-with_hand name (with_deque places w (above_bottom (deque_of places w))) w (bottom_of (deque_of places w))
    ∙ (λ i. model.with_hand (named-pop name places w i) w (bottom-named name places w i))

pub named-stolen : (name : Frame → Path) (parked : Path → Bool) (places : List (WorkerOf Frame)) (w v : ℕ)
    → named name (with_hand (with_deque places v (below_top (deque_of places v))) w (top_of (deque_of places v)))
    ≡ (model.stolen (record { places = named name places; parked = parked }) w v).places
named-stolen name parked places w v =
    named-with_hand name (with_deque places v (below_top (deque_of places v))) w (top_of (deque_of places v))
    ∙ (λ i. model.with_hand (named-steal name places v i) w (top-named name places v i))

-- paths are counted as the frames that they name
hand-held : (name : Frame → Path) (p : Path) (hand : Option Frame) → once (same_path p) (option_map name hand) ≡ once (λ f. same_path p (name f)) hand
hand-held name p None = refl
hand-held name p (Some f) = refl

deque-held : (name : Frame → Path) (p : Path) (deque : List Frame) → count_by (same_path p) (map name deque) ≡ count_by (λ f. same_path p (name f)) deque
deque-held name p [] = refl
deque-held name p (f ∷ deque) =
    omega (
      arith,
      deque-held name p deque,
      sum_by-cons (λ (q : Path). cond (same_path p q) 1 0) (name f) (map name deque),
      sum_by-cons
          (λ (g : Frame). cond (same_path p (name g)) 1 0) f deque,
    )

pub named-held : (name : Frame → Path) (p : Path) (places : List (WorkerOf Frame))
    → sum_by (times_held (same_path p)) (named name places) ≡ count_where (λ f. same_path p (name f)) places
named-held name p [] = refl
named-held name p (at ∷ places) =
    omega (
      arith,
      named-held name p places,
      hand-held name p at.hand,
      deque-held name p at.deque,
      sum_by-cons (times_held (same_path p))
          (place_named name at) (named name places),
      sum_by-cons (times_held (λ f. same_path p (name f))) at places,
    )

-- names that agree on the frames that are there
abbrev Agree : (Frame → Path) → (Frame → Path) → Frame → Type 0
Agree name other f = name f ≡ other f

hand-agrees : (name other : Frame → Path) (hand : Option Frame) → IfSome hand (Agree name other) → option_map name hand ≡ option_map other hand
hand-agrees name other None same = refl
hand-agrees name other (Some f) same = ap Some same

deque-agrees : (name other : Frame → Path) (deque : List Frame) → All (Agree name other) deque → map name deque ≡ map other deque
deque-agrees name other [] same = refl
deque-agrees name other (f ∷ deque) same =
    let here : name f ≡ other f = All-head (Agree name other) f deque same in
    let below = deque-agrees name other deque (All-tail (Agree name other) f deque same) in
    λ i. here i ∷ below i

pub named-agrees : (name other : Frame → Path) (places : List (WorkerOf Frame)) → AllHeld (λ f. name f ≡ other f) places
    → named name places ≡ named other places
named-agrees name other [] same = refl
named-agrees name other (at ∷ places) same =
    let here = All-head (AllAt (Agree name other)) at places same in
    let hand = hand-agrees name other at.hand here.0 in
    let deque = deque-agrees name other at.deque here.1 in
    let others = named-agrees name other places (All-tail (AllAt (Agree name other)) at places same) in
    λ i. record { hand = hand i; deque = deque i } ∷ others i
