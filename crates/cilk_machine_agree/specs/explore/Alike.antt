-- When the parts of two machines tell the same: the instances go by their paths, whatever their ids are, and those that have ended do not matter.
use Rattle.std.specs.Prelude.{◌≡◌, ⊤, List, [], ◌∷◌, map, Option, Some, None, IsPermutation}
use Rattle.cilk_machine_agree.specs.model.Hands.{WorkerOf}
use Rattle.cilk_machine_agree.specs.frame.Frames.{Frame}
use Rattle.cilk_machine_agree.specs.spawn.Nodes.{Node, path_at}
use Rattle.cilk_machine_agree.specs.Outside.{lock_by, outcome_by}
use Rattle.cilk_machine_agree.specs.Agrees.{MachineParts, name_in}
pub use Rattle.cilk_machine_agree.specs.frame.Alike.{SameFrame}
pub use Rattle.cilk_machine_agree.specs.spawn.Alike.{SameParked, SameDelivery, SameWaiting, SameNode, SameTree, taker_in}

module _ (ns ms : List Node) where
  -- a frame here and one there, of one path
  pub record SameHeld (f g : Frame) : Type 0 where
    pub path : name_in ns f ≡ name_in ms g
    pub frames : SameFrame f g

  abbrev pub SameHand : Option Frame → Option Frame → Type 0
  SameHand None None = ⊤
  SameHand None (Some g) = ⊥
  SameHand (Some f) None = ⊥
  SameHand (Some f) (Some g) = SameHeld f g

  abbrev pub SameDeque : List Frame → List Frame → Type 0
  SameDeque [] [] = ⊤
  SameDeque [] (g ∷ gs) = ⊥
  SameDeque (f ∷ fs) [] = ⊥
  SameDeque (f ∷ fs) (g ∷ gs) = SameHeld f g × SameDeque fs gs

  abbrev pub SamePlaces : List (WorkerOf Frame) → List (WorkerOf Frame) → Type 0
  SamePlaces [] [] = ⊤
  SamePlaces [] (y ∷ ys) = ⊥
  SamePlaces (x ∷ xs) [] = ⊥
  SamePlaces (x ∷ xs) (y ∷ ys) = SameHand x.hand y.hand × SameDeque x.deque y.deque × SamePlaces xs ys

  -- in another order of the workers here
  pub record SamePlacesBut (xs ys : List (WorkerOf Frame)) : Type 0 where
    pub places : List (WorkerOf Frame)
    pub order : IsPermutation xs places
    pub same : SamePlaces places ys

pub record SameParts (m n : MachineParts) : Type 0 where
  pub cells : m.outside.cells ≡ n.outside.cells
  pub locks : map (lock_by (path_at m.nodes)) m.outside.locks ≡ map (lock_by (path_at n.nodes)) n.outside.locks
  pub output : m.outside.output ≡ n.outside.output
  pub outcome : outcome_by (path_at m.nodes) m.outside.outcome ≡ outcome_by (path_at n.nodes) n.outside.outcome
  pub tree : SameTree m.nodes n.nodes
  pub places : SamePlaces m.nodes n.nodes m.places n.places

-- but for the names of the workers
pub record SamePartsBut (m n : MachineParts) : Type 0 where
  pub places : List (WorkerOf Frame)
  pub order : IsPermutation m.places places
  pub same : SameParts (record m { places = places }) n
