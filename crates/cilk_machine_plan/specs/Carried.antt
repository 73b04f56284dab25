-- What a machine becomes as a plan is carried out.
use Rattle.std.specs.Prelude.{◌≡◌, ℕ, ℤ, false, List, [], ◌∷◌, ◌++◌, length, map, Option, Some, None, slice_set, if◌then◌else◌}
use Rattle.cilk_machine_agree.specs.model.Hands.{WorkerOf, with_hand, pushed_by}
use Rattle.cilk_machine_agree.specs.nodes.declared.body.Body.{Body}
use Rattle.cilk_machine_agree.specs.frame.Frames as frames
use Rattle.cilk_machine_agree.specs.frame.Frames.{Frame, gone_to, left}
use Rattle.cilk_machine_agree.specs.frame.Begins.{starts_with}
use Rattle.cilk_machine_agree.specs.frame.Cells.{frame_put, globals_put}
use Rattle.cilk_machine_agree.specs.spawn.declared.fate.Fate.TheVariants as fate
use Rattle.cilk_machine_agree.specs.spawn.Nodes.{Node, node_at, with_child, with_parked, taken, ended, marked_below}
use Rattle.cilk_eval.specs.declared.reached.Reached.{Reached}
use Rattle.cilk_machine_agree.specs.Outside as outside
use Rattle.cilk_machine_agree.specs.Outside.{Outside}
use Rattle.cilk_machine_agree.specs.Agrees.{MachineParts}
use Rattle.cilk_machine_agree.specs.Laws.{sent, can_go_on, released}
use Rattle.cilk_machine_agree.specs.Actions.{past_spawn}
use Rattle.cilk_machine_plan.specs.declared.plan.Plan.{Plan}
use Rattle.cilk_machine_plan.specs.declared.plan.Plan.TheVariants as plan
use Rattle.cilk_machine_agree.specs.frame.Kinds.{kind_of}
use Rattle.cilk_machine_plan.specs.declared.did.Did.{Did}
use Rattle.cilk_machine_plan.specs.declared.did.Did.TheVariants as did
use Rattle.cilk_machine_plan.specs.declared.did.Outcome.{Outcome}
use Rattle.cilk_machine_plan.specs.declared.did.Outcome.TheVariants.{Running, Finished}

-- an instance at its start, whose body is this one
abbrev pub started_as : Option Body → ℕ → List ℤ → Frame
started_as body id arguments = record { id = id; activations = starts_with body arguments None ∷ []; boundary = false }

-- the worker has this frame in its hand
abbrev pub with_frame : MachineParts → ℕ → Frame → MachineParts
with_frame m w f = record m { places = with_hand m.places w (Some f) }

-- so it has, and a cell of the frame or of the top level holds z
abbrev pub with_cells : MachineParts → Reached → ℤ → Outside
with_cells m reached z = record m.outside { cells = globals_put reached.slot reached.index z m.outside.cells }

abbrev pub with_written : MachineParts → ℕ → Frame → Reached → ℤ → MachineParts
with_written m w f reached z = record m {
  outside = with_cells m reached z;
  places = with_hand m.places w (Some (frame_put reached.slot reached.index z f));
}

-- the frame of a parked parent that can go on
abbrev pub awake_in : List Node → Option ℕ → Option Frame
awake_in ns None = None
awake_in ns (Some r) = if can_go_on ns r then (node_at ns r).parked else None

-- it is taken out of the tree
abbrev pub nodes_awake : List Node → Option ℕ → List Node
nodes_awake ns None = ns
nodes_awake ns (Some r) = if can_go_on ns r then with_parked ns r None else ns

-- and comes to the hand
abbrev pub places_awake : List (WorkerOf Frame) → ℕ → Option Frame → List (WorkerOf Frame)
places_awake places w None = places
places_awake places w (Some g) = with_hand places w (Some g)

-- the frame in the hand is spent, and the parent may go on
abbrev pub handed_back : MachineParts → ℕ → Outside → List Node → Option ℕ → MachineParts
handed_back m w o ns parent = record {
  outside = o;
  nodes = nodes_awake ns parent;
  places = places_awake (with_hand m.places w None) w (awake_in ns parent);
}

-- the value of the root is the program's
abbrev pub value_outcome : ℤ → Option ℕ → Outcome
value_outcome z None = Finished z
value_outcome z (Some r) = Running

abbrev pub outside_given : Outside → ℤ → Option ℕ → Outside
outside_given o z None = record o { outcome = outside.finished z }
outside_given o z (Some r) = o

-- the machine in which w has frame f in its hand, once the plan is carried out at this choice: what it starts is this body
abbrev pub after_plan : ℕ → MachineParts → ℕ → Frame → Option Body → Plan → MachineParts
after_plan choice m w f body plan.Wait = m
after_plan choice m w f body plan.Park = record m { nodes = with_parked m.nodes f.id (Some f); places = with_hand m.places w None }
after_plan choice m w f body plan.End =
    handed_back m w (record m.outside { locks = map (released f.id) m.outside.locks }) (ended m.nodes f.id (fate.Aborted choice)) (node_at m.nodes f.id).parent
after_plan choice m w f body (plan.Trap kind n) =
    with_frame (record m { outside = record m.outside { outcome = outside.trapped (kind_of kind) f.id n } }) w f
after_plan choice m w f body (plan.Take child n reached z) = record (with_written m w f reached z) { nodes = taken m.nodes f.id choice }
after_plan choice m w f body (plan.Enter child n inlet arguments) =
    record (with_frame m w (frames.entered (starts_with body arguments None) f)) { nodes = taken m.nodes f.id choice }
after_plan choice m w f body (plan.Go n to) = with_frame m w (gone_to to f)
after_plan choice m w f body (plan.Write n reached z to) = with_written m w (gone_to to f) reached z
after_plan choice m w f body (plan.Call n awaits callee arguments to) = with_frame m w (frames.entered (starts_with body arguments awaits) (gone_to to f))
after_plan choice m w f body (plan.Leave n) = with_frame m w (left f)
after_plan choice m w f body (plan.Answer n reached z) = with_written m w (left f) reached z
after_plan choice m w f body (plan.Return n z) =
    handed_back m w (outside_given m.outside z (node_at m.nodes f.id).parent) (ended (sent m.nodes f.id z) f.id fate.Returned) (node_at m.nodes f.id).parent
after_plan choice m w f body (plan.Spawn n receiver callee arguments to) = record m {
  nodes = with_child m.nodes f.id callee receiver;
  places = pushed_by m.places w (past_spawn to f) (started_as body (length m.nodes) arguments);
}
after_plan choice m w f body (plan.Print n bytes to) =
    with_frame (record m { outside = record m.outside { output = m.outside.output ++ bytes } }) w (gone_to to f)
after_plan choice m w f body (plan.TurnLock n lock now to) =
    with_frame (record m { outside = record m.outside { locks = slice_set m.outside.locks lock now } }) w (gone_to to f)
after_plan choice m w f body (plan.Abort n to) = with_frame (record m { nodes = marked_below m.nodes f.id }) w (gone_to to f)

-- what is told of it, where so many instances were ever made
abbrev pub did_of : ℕ → Frame → Plan → Did
did_of count f plan.Wait = did.Moved
did_of count f plan.Park = did.Moved
did_of count f plan.End = did.Ended f.id
did_of count f (plan.Trap kind n) = did.Trapped kind f.id n
did_of count f (plan.Take child n reached z) = did.Delivered child n
did_of count f (plan.Enter child n inlet arguments) = did.Delivered child n
did_of count f (plan.Go n to) = did.Acted f.id n
did_of count f (plan.Write n reached z to) = did.Acted f.id n
did_of count f (plan.Call n awaits callee arguments to) = did.Acted f.id n
did_of count f (plan.Leave n) = did.Acted f.id n
did_of count f (plan.Answer n reached z) = did.Acted f.id n
did_of count f (plan.Return n z) = did.Returned f.id n
did_of count f (plan.Spawn n receiver callee arguments to) = did.Spawned count n
did_of count f (plan.Print n bytes to) = did.Acted f.id n
did_of count f (plan.TurnLock n lock now to) = did.Acted f.id n
did_of count f (plan.Abort n to) = did.Acted f.id n

-- one machine became another, as the plan says
pub record Carried (choice : ℕ) (m : MachineParts) (w : ℕ) (f : Frame) (body : Option Body) (plan : Plan) (now : MachineParts) (told : Did) : Type 0 where
  pub machine : now ≡ after_plan choice m w f body plan
  pub did : told ≡ did_of (length m.nodes) f plan
