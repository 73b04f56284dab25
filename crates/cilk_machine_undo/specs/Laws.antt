-- What is put back.
use Rattle.std.specs.Prelude.{◌≡◌, ◌≢◌, ◌<◌, ◌≤◌, ℕ, true, Option, Some, None}
use Rattle.cilk_machine_plan.specs.model.Hands.{IsWorker, hand_of, deque_of, top_of, bottom_of, popped_by, stolen_by}
use Rattle.cilk_machine_plan.specs.nodes.declared.body.Body.{Body}
use Rattle.cilk_machine_plan.specs.frame.Frames.{Frame, depth}
use Rattle.cilk_machine_plan.specs.spawn.Nodes.{IsTree, node_at, is_live}
use Rattle.cilk_machine_plan.specs.agree.Outside as outside
use Rattle.cilk_machine_plan.specs.agree.Agrees.{MachineParts}
use Rattle.cilk_machine_plan.specs.declared.plan.Plan.{Plan}
use Rattle.cilk_machine_plan.specs.Ready.{Ready}
use Rattle.cilk_machine_plan.specs.Carried.{after_plan}
use Rattle.cilk_machine_undo.specs.Undo.{undone, popped, stolen}
use Rattle.cilk_machine_undo.specs.Records.{undo_of}
use Rattle.cilk_machine_undo.specs.Able.{CanTakeBack}

-- w has this frame in its hand, the program runs, and the plan can be carried out
pub record CanUndo (choice : ℕ) (m : MachineParts) (w : ℕ) (f : Frame) (body : Option Body) (x : Plan) : Type 0 where
  pub tree : IsTree m.nodes
  pub worker : IsWorker m.places w
  pub hand : hand_of m.places w ≡ Some f
  pub runs : m.outside.outcome ≡ outside.running
  pub some : 0 < depth f
  pub limit : depth f ≤ 256
  -- what is parked with an instance is its own frame
  pub own : (i : ℕ) (g : Frame) → is_live (node_at m.nodes i) ≡ true → (node_at m.nodes i).parked ≡ Some g → g.id ≡ i
  pub ready : Ready choice m.nodes m.outside.cells f body x

abbrev pub PlansAreUndone : Type 0
PlansAreUndone = (choice : ℕ) (m : MachineParts) (w : ℕ) (f : Frame) (body : Option Body) (x : Plan) → CanUndo choice m w f body x
    → undone (undo_of m w f x) (after_plan choice m w f body x) ≡ m

abbrev pub PopsAreUndone : Type 0
PopsAreUndone = (m : MachineParts) (w : ℕ) → IsWorker m.places w → hand_of m.places w ≡ None → m.outside.outcome ≡ outside.running
    → undone (popped w) (record m { places = popped_by m.places w }) ≡ m

abbrev pub StealsAreUndone : Type 0
StealsAreUndone = (m : MachineParts) (w v : ℕ) → IsWorker m.places w → IsWorker m.places v → v ≢ w → hand_of m.places w ≡ None
    → m.outside.outcome ≡ outside.running → undone (stolen w v) (record m { places = stolen_by m.places w v }) ≡ m

-- what has to be there for that is there behind the step
abbrev pub PlansCanBeUndone : Type 0
PlansCanBeUndone = (choice : ℕ) (m : MachineParts) (w : ℕ) (f : Frame) (body : Option Body) (x : Plan) → CanUndo choice m w f body x
    → CanTakeBack (undo_of m w f x) (after_plan choice m w f body x)

abbrev pub PopsCanBeUndone : Type 0
PopsCanBeUndone = (m : MachineParts) (w : ℕ) (f : Frame) → IsWorker m.places w → bottom_of (deque_of m.places w) ≡ Some f
    → CanTakeBack (popped w) (record m { places = popped_by m.places w })

abbrev pub StealsCanBeUndone : Type 0
StealsCanBeUndone = (m : MachineParts) (w v : ℕ) (f : Frame) → IsWorker m.places w → IsWorker m.places v → v ≢ w
    → top_of (deque_of m.places v) ≡ Some f → CanTakeBack (stolen w v) (record m { places = stolen_by m.places w v })
