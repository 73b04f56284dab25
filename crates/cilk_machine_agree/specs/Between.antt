-- The machine between the halves of a step: the frame has left the hand, a value was sent, an instance has ended.
use Rattle.std.specs.Prelude.{◌≡◌, ℕ, ℤ, true, false, List, [], ◌∷◌, ◌++◌, Some, None}
use Rattle.cilk_laws_model.specs.model.Hands.{WorkerOf, IsWorker, hand_of, deque_of, with_hand, with_deque, pushed_by}
use Rattle.cilk_sched.specs.frame.Frames.{Frame}
use Rattle.cilk_spawn.specs.declared.fate.Fate.TheVariants.{Returned, Aborted}
use Rattle.cilk_spawn.specs.Nodes.{Node, node_at, is_live, has_live_child, ended}
use Rattle.cilk_machine_agree.specs.Laws.{InHand, node_of, sent}

-- the hand is emptied, and takes a frame
abbrev pub HandsAreFilled : Type 0
HandsAreFilled = (places : List (WorkerOf Frame)) (w : ℕ) (f : Frame) → IsWorker places w
    → with_hand (with_hand places w None) w (Some f) ≡ with_hand places w (Some f)

-- it takes again what it held
abbrev pub HandsAreRestored : Type 0
HandsAreRestored = (places : List (WorkerOf Frame)) (w : ℕ) → IsWorker places w
    → with_hand (with_hand places w None) w (hand_of places w) ≡ places

-- the hand is emptied; f goes to the bottom of the deque, and g to the hand
abbrev pub HandsAreHandedOn : Type 0
HandsAreHandedOn = (places : List (WorkerOf Frame)) (w : ℕ) (f g : Frame) → IsWorker places w
    → with_hand (with_deque (with_hand places w None) w (deque_of (with_hand places w None) w ++ f ∷ [])) w (Some g) ≡ pushed_by places w f g

-- an instance without a live child can end once its value is sent
pub record CanEnd (t : InHand) (ns : List Node) : Type 0 where
  pub live : is_live (node_at ns t.frame.id) ≡ true
  pub childless : has_live_child ns t.frame.id ≡ false
  pub free : (node_at ns t.frame.id).parked ≡ None
  pub parent : (node_at ns t.frame.id).parent ≡ (node_of t).parent

abbrev pub SendersCanEnd : Type 0
SendersCanEnd = (t : InHand) (z : ℤ) → has_live_child t.machine.nodes t.frame.id ≡ false → CanEnd t (sent t.machine.nodes t.frame.id z)

-- its parent outlives it
abbrev pub ParentsOutlive : Type 0
ParentsOutlive = (t : InHand) (z : ℤ) (choice r : ℕ) → (node_of t).parent ≡ Some r → has_live_child t.machine.nodes t.frame.id ≡ false
    → (is_live (node_at (ended (sent t.machine.nodes t.frame.id z) t.frame.id Returned) r) ≡ true)
    × (is_live (node_at (ended t.machine.nodes t.frame.id (Aborted choice)) r) ≡ true)
