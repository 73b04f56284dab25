-- What has to be there for a choice to be taken back. Of the tree it is said of what comes out, which is what was there before the choice.
use Rattle.std.specs.Prelude.{◌≡◌, ◌≢◌, ◌<◌, ◌-◌, ℕ, ℤ, ⊤, Bool, true, false, List, All, length, Some, None}
use Rattle.cilk_machine_plan.specs.model.Hands.{WorkerOf, IsWorker, hand_of}
use Rattle.cilk_machine_plan.specs.eval.declared.reached.Reached.{Reached}
use Rattle.cilk_machine_plan.specs.frame.Frames.{Frame, Activation, depth, entered}
use Rattle.cilk_machine_plan.specs.spawn.declared.delivery.Delivery.{Delivery}
use Rattle.cilk_machine_plan.specs.spawn.declared.fate.Fate.{Fate}
use Rattle.cilk_machine_plan.specs.spawn.Nodes.{Node, IsTree, node_at, is_live, lives, has_live_child}
use Rattle.cilk_machine_plan.specs.spawn.Dropped.{unborn}
use Rattle.cilk_machine_plan.specs.spawn.Revived.{revived}
use Rattle.cilk_machine_plan.specs.spawn.Undone.{untaken, unsent, unmarked}
use Rattle.cilk_machine_plan.specs.agree.Agrees.{MachineParts}
use Rattle.cilk_machine_plan.specs.Ready.{Fits}
use Rattle.cilk_machine_undo.specs.Frames.{Change, stays, went, wrote, took, called, opened, closed, answered}
use Rattle.cilk_machine_undo.specs.Undo.{Family, Gone, Undo, asleep, acted, parked, spawned, ended, popped, stolen}
use Rattle.cilk_machine_undo.specs.Undo as undo

-- the frame in the hand
abbrev pub FrameAllows : Change → Frame → List ℤ → Type 0
FrameAllows stays f cells = ⊤
FrameAllows (went n flag) f cells = ⊤
FrameAllows (wrote n flag cell z) f cells = Fits cell.slot cell.index f cells
FrameAllows (took cell z) f cells = Fits cell.slot cell.index f cells
FrameAllows (called n flag) f cells = 1 < depth f
FrameAllows opened f cells = 1 < depth f
FrameAllows (closed a) f cells = depth f < 256
FrameAllows (answered a cell z) f cells = (0 < depth f) × (depth f < 256) × Fits cell.slot cell.index f cells

-- k has not taken this delivery
pub record CanUntake (ns : List Node) (k : ℕ) (d : Delivery) (fate : Fate) : Type 0 where
  pub live : is_live (node_at ns k) ≡ true
  pub there : d.child < length ns
  pub alike : lives fate ≡ is_live (node_at ns d.child)
  pub tree : IsTree (untaken ns k d fate)

pub record CanUnmark (ns : List Node) (ids : List ℕ) : Type 0 where
  pub there : All (λ i. i < length ns) ids
  pub tree : IsTree (unmarked ns ids)

abbrev pub TreeAllows : Family → List Node → Type 0
TreeAllows undo.kept ns = ⊤
TreeAllows (undo.took k d fate) ns = CanUntake ns k d fate
TreeAllows (undo.marked ids) ns = CanUnmark ns ids

-- the frame stays in the hand
pub record CanActBack (w : ℕ) (change : Change) (family : Family) (m : MachineParts) : Type 0 where
  pub worker : IsWorker m.places w
  pub frame : Frame
  pub hand : hand_of m.places w ≡ Some frame
  pub allows : FrameAllows change frame m.outside.cells
  pub tree : TreeAllows family m.nodes

-- the frame of k comes to the hand
pub record CanUnpark (w k : ℕ) (m : MachineParts) : Type 0 where
  pub worker : IsWorker m.places w
  pub empty : hand_of m.places w ≡ None
  pub live : is_live (node_at m.nodes k) ≡ true

-- the newest instance, of parent k, was not there
pub record CanUnbear (w k : ℕ) (m : MachineParts) : Type 0 where
  pub worker : IsWorker m.places w
  pub above : k < length m.nodes - 1
  pub live : is_live (node_at m.nodes (length m.nodes - 1)) ≡ true
  pub childless : has_live_child m.nodes (length m.nodes - 1) ≡ false
  pub free : (node_at m.nodes (length m.nodes - 1)).parked ≡ None
  pub tree : IsTree (unborn k m.nodes)

-- this frame is parked with r
pub record CanPark (ns : List Node) (r : ℕ) (g : Frame) : Type 0 where
  pub own : g.id ≡ r
  pub live : is_live (node_at ns r) ≡ true
  pub free : (node_at ns r).parked ≡ None

pub record CanUnsend (ns : List Node) (p k : ℕ) : Type 0 where
  pub parent : is_live (node_at ns p) ≡ true
  pub child : is_live (node_at ns k) ≡ true
  pub tree : IsTree (unsent ns p k)

-- k lives on, whose parent may be in this hand
pub record CanLiveOn (w k : ℕ) (sent : Bool) (ns : List Node) (places : List (WorkerOf Frame)) : Type 0 where
  pub worker : IsWorker places w
  pub there : k < length ns
  pub parks : (r : ℕ) (g : Frame) → (node_at ns k).parent ≡ Some r → hand_of places w ≡ Some g → CanPark ns r g
  pub unsends : sent ≡ true → (p : ℕ) → (node_at ns k).parent ≡ Some p → CanUnsend (asleep (node_at ns k).parent (hand_of places w) ns) p k

-- an instance that ended lives again
pub record CanRevive (w : ℕ) (of : Gone) (m : MachineParts) : Type 0 where
  pub there : of.frame.id < length m.nodes
  pub dead : is_live (node_at m.nodes of.frame.id) ≡ false
  pub tree : IsTree (revived m.nodes of.frame.id of.remains)
  pub lives_on : CanLiveOn w of.frame.id of.sent (revived m.nodes of.frame.id of.remains) m.places

-- a frame is in the hand of w
pub record CanPopBack (w : ℕ) (m : MachineParts) : Type 0 where
  pub worker : IsWorker m.places w
  pub frame : Frame
  pub hand : hand_of m.places w ≡ Some frame

-- and v is another worker
pub record CanStealBack (w v : ℕ) (m : MachineParts) : Type 0 where
  pub pops : CanPopBack w m
  pub victim : IsWorker m.places v
  pub other : v ≢ w

abbrev pub CanTakeBack : Undo → MachineParts → Type 0
CanTakeBack (acted w change family beside) m = CanActBack w change family m
CanTakeBack (parked w k) m = CanUnpark w k m
CanTakeBack (spawned w k n flag) m = CanUnbear w k m
CanTakeBack (ended w of) m = CanRevive w of m
CanTakeBack (popped w) m = CanPopBack w m
CanTakeBack (stolen w v) m = CanStealBack w v m

-- the frame in the hand stands above another activation, a cell of which is written
pub record WritesBelow (w : ℕ) (r : Reached) (cells : List ℤ) (places : List (WorkerOf Frame)) : Type 0 where
  pub worker : IsWorker places w
  pub top : Activation
  pub rest : Frame
  pub hand : hand_of places w ≡ Some (entered top rest)
  pub some : 0 < depth rest
  pub fits : Fits r.slot r.index rest cells
