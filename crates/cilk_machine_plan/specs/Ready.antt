-- What has to be there for a plan to be carried out.
use Rattle.std.specs.Prelude.{◌≡◌, ◌<◌, ◌+◌, ◌^◌, ℕ, ℤ, ⊤, true, false, List, [], length, Option, Some, None}
use Rattle.cilk_machine_agree.specs.model.Hands.{WorkerOf, hand_of}
use Rattle.cilk_machine_agree.specs.nodes.declared.slot.Slot.{Slot}
use Rattle.cilk_machine_agree.specs.nodes.Areas.{area_cells}
use Rattle.cilk_machine_agree.specs.nodes.declared.body.Body.{Body}
use Rattle.cilk_machine_agree.specs.frame.Frames.{Frame, depth, gone_to, left}
use Rattle.cilk_machine_agree.specs.frame.Begins.{Takes}
use Rattle.cilk_machine_agree.specs.frame.Reads.{lent}
use Rattle.cilk_machine_agree.specs.spawn.declared.fate.Fate.{Fate}
use Rattle.cilk_machine_agree.specs.spawn.declared.fate.Fate.TheVariants as fate
use Rattle.cilk_machine_agree.specs.spawn.Nodes.{Node, node_at, is_live, has_live_child, ended}
use Rattle.cilk_machine_agree.specs.Laws.{sent}
use Rattle.cilk_machine_plan.specs.declared.plan.Plan.{Plan}
use Rattle.cilk_machine_plan.specs.declared.plan.Plan.TheVariants as plan

-- what stands where there is no frame
abbrev pub no_frame : Frame
no_frame = record { id = 0; activations = []; boundary = false }

abbrev pub frame_of : Option Frame → Frame
frame_of None = no_frame
frame_of (Some f) = f

-- the frame in a worker's hand
abbrev pub frame_in : List (WorkerOf Frame) → ℕ → Frame
frame_in places w = frame_of (hand_of places w)

-- the cell lies in its area, and has a number of 32 bits
pub record Fits (slot : Slot) (index : ℕ) (f : Frame) (globals : List ℤ) : Type 0 where
  pub numbered : slot.offset + index < 2 ^ 32
  pub there : slot.offset + index < length (area_cells (lent f globals true) slot.area)

-- the instance lives, and is parked nowhere
pub record Acting (ns : List Node) (k : ℕ) : Type 0 where
  pub live : is_live (node_at ns k) ≡ true
  pub free : (node_at ns k).parked ≡ None

-- it can end, and this parent lives on
pub record CanEnd (ns : List Node) (k : ℕ) (parent : Option ℕ) (how : Fate) : Type 0 where
  pub acting : Acting ns k
  pub childless : has_live_child ns k ≡ false
  pub outlives : (r : ℕ) → parent ≡ Some r → is_live (node_at (ended ns k how) r) ≡ true

-- a body takes the arguments, and one activation more may stand in the frame
pub record CanEnter (f : Frame) (body : Option Body) (arguments : List ℤ) : Type 0 where
  pub takes : Takes body arguments
  pub depth : depth f < 256

-- a child may start
pub record CanSpawn (ns : List Node) (k : ℕ) (body : Option Body) (arguments : List ℤ) : Type 0 where
  pub takes : Takes body arguments
  pub room : (node_at ns k).children + 1 < 2 ^ 32

-- what the plan needs besides
abbrev pub Needs : ℕ → List Node → List ℤ → Frame → Option Body → Plan → Type 0
Needs choice ns cells f body plan.Wait = ⊥
Needs choice ns cells f body plan.Park = ⊤
Needs choice ns cells f body plan.End = CanEnd ns f.id (node_at ns f.id).parent (fate.Aborted choice)
Needs choice ns cells f body (plan.Trap kind n) = ⊤
Needs choice ns cells f body (plan.Take child n reached z) = Fits reached.slot reached.index f cells
Needs choice ns cells f body (plan.Enter child n inlet arguments) = CanEnter f body arguments
Needs choice ns cells f body (plan.Go n to) = ⊤
Needs choice ns cells f body (plan.Write n reached z to) = Fits reached.slot reached.index (gone_to to f) cells
Needs choice ns cells f body (plan.Call n awaits callee arguments to) = CanEnter f body arguments
Needs choice ns cells f body (plan.Leave n) = 1 < depth f
Needs choice ns cells f body (plan.Answer n reached z) = (1 < depth f) × Fits reached.slot reached.index (left f) cells
Needs choice ns cells f body (plan.Return n z) = CanEnd (sent ns f.id z) f.id (node_at ns f.id).parent fate.Returned
Needs choice ns cells f body (plan.Spawn n receiver callee arguments to) = CanSpawn ns f.id body arguments
Needs choice ns cells f body (plan.Print n bytes to) = ⊤
Needs choice ns cells f body (plan.TurnLock n lock now to) = ⊤
Needs choice ns cells f body (plan.Abort n to) = ⊤

pub record Ready (choice : ℕ) (ns : List Node) (cells : List ℤ) (f : Frame) (body : Option Body) (plan : Plan) : Type 0 where
  pub acting : Acting ns f.id
  pub needs : Needs choice ns cells f body plan
