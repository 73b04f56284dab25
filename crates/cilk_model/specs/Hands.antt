-- Hands and deques, of whatever stands in them: paths in the definitions of runs, and frames in a machine (Cilk 5.4 manual, work stealing).
use Rattle.std.specs.Prelude.{ℕ, ◌-◌, ◌≤◌, List, [], ◌∷◌, ◌++◌, length, map, Option, Some, None, option_map, slice_index_or, slice_set}

-- a worker's hand, and its deque from top to bottom
pub record WorkerOf (A : Type 0) : Type 0 where
  pub hand : Option A
  pub deque : List A

abbrev pub no_place : {A : Type 0} → WorkerOf A
no_place = record { hand = None; deque = [] }

-- workers are numbered from 1, and there are as many as places
pub record IsWorker {A : Type 0} (places : List (WorkerOf A)) (w : ℕ) : Type 0 where
  pub from_one : 1 ≤ w
  pub within : w ≤ length places

abbrev pub worker_at : {A : Type 0} → List (WorkerOf A) → ℕ → WorkerOf A
worker_at places w = slice_index_or places (w - 1) no_place

abbrev pub hand_of : {A : Type 0} → List (WorkerOf A) → ℕ → Option A
hand_of places w = (worker_at places w).hand

abbrev pub deque_of : {A : Type 0} → List (WorkerOf A) → ℕ → List A
deque_of places w = (worker_at places w).deque

-- worker w has another hand, or another deque
abbrev pub with_hand : {A : Type 0} → List (WorkerOf A) → ℕ → Option A → List (WorkerOf A)
with_hand places w hand = slice_set places (w - 1) (record { hand = hand; deque = deque_of places w })

abbrev pub with_deque : {A : Type 0} → List (WorkerOf A) → ℕ → List A → List (WorkerOf A)
with_deque places w deque = slice_set places (w - 1) (record { hand = hand_of places w; deque = deque })

-- the ends of a deque, and what is left of it
abbrev pub top_of : {A : Type 0} → List A → Option A
top_of [] = None
top_of (p ∷ deque) = Some p

abbrev pub below_top : {A : Type 0} → List A → List A
below_top [] = []
below_top (p ∷ deque) = deque

abbrev pub bottom_of : {A : Type 0} → List A → Option A
bottom_of [] = None
bottom_of (p ∷ []) = Some p
bottom_of (p ∷ q ∷ deque) = bottom_of (q ∷ deque)

abbrev pub above_bottom : {A : Type 0} → List A → List A
above_bottom [] = []
above_bottom (p ∷ []) = []
above_bottom (p ∷ q ∷ deque) = p ∷ above_bottom (q ∷ deque)

-- the bottom of w's own deque comes to its hand
abbrev pub popped_by : {A : Type 0} → List (WorkerOf A) → ℕ → List (WorkerOf A)
popped_by places w = with_hand (with_deque places w (above_bottom (deque_of places w))) w (bottom_of (deque_of places w))

-- the top of v's deque comes to w's hand
abbrev pub stolen_by : {A : Type 0} → List (WorkerOf A) → ℕ → ℕ → List (WorkerOf A)
stolen_by places w v = with_hand (with_deque places v (below_top (deque_of places v))) w (top_of (deque_of places v))

-- x leaves w's hand for the bottom of its deque, and y comes to the hand
abbrev pub pushed_by : {A : Type 0} → List (WorkerOf A) → ℕ → A → A → List (WorkerOf A)
pushed_by places w x y = with_hand (with_deque places w (deque_of places w ++ x ∷ [])) w (Some y)

-- what stands there goes by another name
abbrev pub place_named : {A B : Type 0} → (A → B) → WorkerOf A → WorkerOf B
place_named f at = record { hand = option_map f at.hand; deque = map f at.deque }

abbrev pub named : {A B : Type 0} → (A → B) → List (WorkerOf A) → List (WorkerOf B)
named f places = map (place_named f) places
