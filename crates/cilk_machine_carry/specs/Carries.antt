-- What carrying out a plan promises.
use Rattle.std.specs.Prelude.{◌≡◌, ◌≢◌, ◌<◌, ◌^◌, ℕ, ⊤, Option, None, Some, length}
use Rattle.cilk_machine_plan.specs.labelled.Labelled.{Labelled}
use Rattle.cilk_machine_plan.specs.labelled.Bodies.{label}
use Rattle.cilk_machine_plan.specs.syntax.Tree.{Program}
use Rattle.cilk_machine_plan.specs.model.Instance.{Instance, body_at}
use Rattle.cilk_machine_plan.specs.model.Hands.{hand_of}
use Rattle.cilk_machine_plan.specs.model.Run.{waits_now, stepped, event_of_step}
use Rattle.cilk_machine_plan.specs.nodes.declared.body.Body.{Body}
use Rattle.cilk_machine_plan.specs.nodes.Bodies.{body_of}
use Rattle.cilk_machine_plan.specs.nodes.Slots.{cells_of}
use Rattle.cilk_machine_plan.specs.frame.Frames.{Frame}
use Rattle.cilk_machine_plan.specs.spawn.Nodes.{path_at}
use Rattle.cilk_machine_plan.specs.agree.Outside as outside
use Rattle.cilk_machine_plan.specs.agree.Agrees.{MachineParts, Agrees}
use Rattle.cilk_machine_plan.specs.agree.Fated.{Follows}
use Rattle.cilk_machine_plan.specs.agree.Laws.{InHand, path_of}
use Rattle.cilk_machine_plan.specs.declared.plan.Plan.{Plan}
use Rattle.cilk_machine_plan.specs.declared.plan.Plan.TheVariants as plan
use Rattle.cilk_machine_plan.specs.Plans.{IsPlan, step_in}
use Rattle.cilk_machine_plan.specs.declared.did.Did.{Did}
use Rattle.cilk_machine_plan.specs.declared.did.Done.{Done}
use Rattle.cilk_machine_plan.specs.declared.parts.Parts.{Parts}
use Rattle.cilk_machine_plan.specs.PartWords.{machine_of, outcome_of, event_by}
use Rattle.cilk_machine_plan.specs.Carried.{Carried}

-- the cells of a body, and those of the top level, have numbers of 32 bits
pub record CellsAreFew (program : Labelled) : Type 0 where
  pub own : (b : ℕ) → b < length program.bodies → cells_of (body_at program b).variables < 2 ^ 32
  pub globals : cells_of program.globals < 2 ^ 32

-- the body that the plan starts, if it starts one
abbrev pub Starts : Program → Option Body → Plan → Type 0
Starts p body plan.Wait = ⊤
Starts p body plan.Park = ⊤
Starts p body plan.End = ⊤
Starts p body (plan.Trap kind n) = ⊤
Starts p body (plan.Take child n reached z) = ⊤
Starts p body (plan.Enter child n inlet arguments) = body ≡ body_of p inlet
Starts p body (plan.Go n to) = ⊤
Starts p body (plan.Write n reached z to) = ⊤
Starts p body (plan.Call n awaits callee arguments to) = body ≡ body_of p callee
Starts p body (plan.Leave n) = ⊤
Starts p body (plan.Answer n reached z) = ⊤
Starts p body (plan.Return n z) = ⊤
Starts p body (plan.Spawn n receiver callee arguments to) = body ≡ body_of p callee
Starts p body (plan.Print n bytes to) = ⊤
Starts p body (plan.TurnLock n lock now to) = ⊤
Starts p body (plan.Abort n to) = ⊤

-- the plan is that of the instance in the worker's hand, whose machine these parts are
pub record Planned (parts : Parts) (w : ℕ) (body : Option Body) (plan : Plan) (t : InHand) : Type 0 where
  pub machine : t.machine ≡ machine_of parts outside.running
  pub worker : t.worker ≡ w
  pub is_plan : IsPlan t plan
  pub starts : Starts t.program body plan

-- there are such a program and such a standing
pub record CanCarry (parts : Parts) (w : ℕ) (body : Option Body) (made : Plan) : Type 0 where
  pub goes : made ≢ plan.Wait
  pub in_hand : InHand
  pub planned : Planned parts w body made in_hand
  pub few : CellsAreFew (label in_hand.program)

-- the step of the instance in the hand was taken at this choice, and it leads here
pub record Stepped (choice : ℕ) (t : InHand) (m : MachineParts) (did : Did) : Type 0 where
  pub free : waits_now (step_in t) ≡ None
  pub event : event_by (path_at t.machine.nodes) (path_at m.nodes) did ≡ event_of_step (step_in t)
  pub who : ℕ → Instance
  pub agrees : Agrees t.program m who (stepped t.at t.worker (path_of t) (step_in t))
  -- each node keeps what became of its instance
  pub follows : Follows (label t.program) choice t.machine.nodes m.nodes (event_of_step (step_in t))

-- whatever the program and the standing were
abbrev pub Carries : ℕ → Parts → ℕ → Option Body → Plan → Parts → Done → Type 0
Carries choice parts w body plan now done = (t : InHand) → Planned parts w body plan t → Stepped choice t (machine_of now (outcome_of done.outcome)) done.did

-- the machine is then what the plan makes of it, whatever frame is in the hand
abbrev pub Becomes : ℕ → Parts → ℕ → Option Body → Plan → Parts → Done → Type 0
Becomes choice parts w body plan now done = (f : Frame) → hand_of parts.hands w ≡ Some f
    → Carried choice (machine_of parts outside.running) w f body plan (machine_of now (outcome_of done.outcome)) done.did
