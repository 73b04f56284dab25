-- What a plan says of the step of an instance that the definition of runs takes.
use Rattle.std.specs.Prelude.{pos, ◌≡◌, ◌<◌, ◌+◌, ◌^◌, ℕ, ℤ, false, List, ◌∷◌, length, Option, Some}
use Rattle.cilk_machine_agree.specs.labelled.Bodies.{label}
use Rattle.cilk_machine_agree.specs.model.Path.{child_path}
use Rattle.cilk_machine_agree.specs.model.Values.{Cell, Reached}
use Rattle.cilk_machine_agree.specs.model.Instance as model
use Rattle.cilk_machine_agree.specs.model.Instance.{Activation, Delivery, body_at}
use Rattle.cilk_machine_agree.specs.model.State.{State}
use Rattle.cilk_machine_agree.specs.model.Event.{acted, spawned, delivered, returned, ended, trapped}
use Rattle.cilk_machine_agree.specs.model.Change.{stopped, after_going, after_write, after_place, after_inlet, after_call, after_leaving}
use Rattle.cilk_machine_agree.specs.model.Change.{after_answer, after_return, after_start, after_print, after_lock, after_marks, after_abort}
use Rattle.cilk_machine_agree.specs.model.Pick.{Step, waits, parks, goes_on, ends, spawns, step_of}
use Rattle.cilk_machine_agree.specs.model.Made.{callee_of}
use Rattle.cilk_machine_agree.specs.scopes.declared.owner.Owner.TheVariants.{Function, Inlet}
use Rattle.cilk_machine_agree.specs.syntax.declared.return_type.ReturnType.{ReturnType}
use Rattle.cilk_machine_agree.specs.nodes.Slots.{is_inlet, procedure_around}
use Rattle.cilk_machine_agree.specs.nodes.Bodies.{body_of}
use Rattle.cilk_machine_agree.specs.frame.declared.awaited.Await.{Await}
use Rattle.cilk_machine_agree.specs.frame.Frames.{depth}
use Rattle.cilk_machine_agree.specs.frame.Begins.{Takes}
use Rattle.cilk_machine_agree.specs.frame.Cells.{SameCell}
use Rattle.cilk_machine_agree.specs.frame.Stands.{AwaitsSame, bodies_of}
use Rattle.cilk_machine_agree.specs.frame.declared.receiver.Receiver.{Receiver}
use Rattle.cilk_machine_agree.specs.spawn.Nodes.{has_live_child, path_at}
use Rattle.cilk_eval.specs.declared.reached.Reached as code
use Rattle.cilk_machine_agree.specs.declared.lock.Lock.{Lock}
use Rattle.cilk_machine_agree.specs.Outside.{LockWithin, lock_by}
use Rattle.cilk_machine_agree.specs.Alike.{Receives, lowest_body}
use Rattle.cilk_machine_agree.specs.Laws.{InHand, path_of, node_of, instance_of}
use Rattle.cilk_machine_agree.specs.Actions.{IsNext}
use Rattle.cilk_machine_plan.specs.declared.plan.Plan as plan
use Rattle.cilk_machine_plan.specs.declared.plan.Plan.{Plan}
use Rattle.cilk_machine_agree.specs.frame.Kinds.{kind_of}
use Rattle.cilk_machine_plan.specs.StepInput.{StepInput}

-- what the step of the instance in the hand looks at
abbrev pub input_in : InHand → StepInput
input_in t = record {
  program = t.program;
  globals = t.machine.outside.cells;
  locks = t.machine.outside.locks;
  printed = length t.machine.outside.output;
  nodes = t.machine.nodes;
  frame = t.frame;
}

-- the step that the definition of runs takes
abbrev pub step_in : InHand → Step
step_in t = step_of (label t.program) t.at.state (path_of t)

-- the step that leads to this state, by action n
abbrev pub acts : InHand → State → ℕ → Step
acts t s n = goes_on s (acted (path_of t) n)

pub record Ends (t : InHand) : Type 0 where
  pub step : step_in t ≡ ends (after_abort t.at.state (path_of t)) (ended (path_of t))
  pub childless : has_live_child t.machine.nodes t.frame.id ≡ false

-- the delivery that waits longest, and the others
pub record Oldest (t : InHand) (child : ℕ) : Type 0 where
  pub oldest : Delivery
  pub others : List Delivery
  pub waiting : (instance_of t).waiting ≡ oldest ∷ others
  pub within : child < length t.machine.nodes
  pub child_is : path_at t.machine.nodes child ≡ oldest.child

-- the cell in the frame is one of the instance
pub record At (t : InHand) (b : ℕ) (reached : code.Reached) : Type 0 where
  pub cell : Cell
  pub same : SameCell (label t.program) b reached.slot reached.index cell

pub record TakesOldest (t : InHand) (child n : ℕ) (reached : code.Reached) (z : ℤ) : Type 0 where
  pub first : Oldest t child
  pub at : At t (instance_of t).top.body reached
  pub step : step_in t ≡ goes_on (after_place t.at.state (path_of t) (instance_of t) first.others at.cell z) (delivered first.oldest.child n)

pub record Enters (t : InHand) (child n inlet : ℕ) (arguments : List ℤ) : Type 0 where
  pub first : Oldest t child
  pub takes : Takes (body_of t.program inlet) arguments
  pub owner : (body_at (label t.program) inlet).owner ≡ Inlet
  pub inside : lowest_body (instance_of t) ≡ procedure_around (label t.program) inlet
  pub depth : depth t.frame < 256
  pub step : step_in t
      ≡ goes_on (after_inlet (label t.program) t.at.state (path_of t) (instance_of t) first.others inlet arguments) (delivered first.oldest.child n)

pub record Goes (t : InHand) (n to : ℕ) : Type 0 where
  pub answer : ℤ
  pub step : step_in t ≡ acts t (after_going t.at.state (path_of t) (instance_of t) answer) n
  pub next : IsNext t answer to

pub record Writes (t : InHand) (n : ℕ) (reached : code.Reached) (z : ℤ) (to : ℕ) : Type 0 where
  pub at : At t (instance_of t).top.body reached
  pub step : step_in t ≡ acts t (after_write t.at.state (path_of t) (instance_of t) at.cell z) n
  pub next : IsNext t (pos 1) to

pub record Calls (t : InHand) (n : ℕ) (awaits : Option Await) (callee : ℕ) (arguments : List ℤ) (to : ℕ) : Type 0 where
  pub awaited : Option Reached
  pub same : AwaitsSame (label t.program) awaits awaited (bodies_of ((instance_of t).top ∷ (instance_of t).below))
  pub takes : Takes (body_of t.program callee) arguments
  pub returns : ReturnType
  pub function : (body_at (label t.program) callee).owner ≡ Function returns
  pub depth : depth t.frame < 256
  pub step : step_in t ≡ acts t (after_call (label t.program) t.at.state (path_of t) (instance_of t) awaited callee arguments) n
  pub next : IsNext t (pos 1) to

-- the activation below the one that is left
pub record Caller (t : InHand) : Type 0 where
  pub caller : Activation
  pub below : List Activation
  pub is : (instance_of t).below ≡ caller ∷ below

pub record Leaves (t : InHand) (n : ℕ) : Type 0 where
  pub caller : Caller t
  pub step : step_in t ≡ acts t (after_leaving t.at.state (path_of t) (instance_of t)) n

pub record Answers (t : InHand) (n : ℕ) (reached : code.Reached) (z : ℤ) : Type 0 where
  pub caller : Caller t
  pub at : At t caller.caller.body reached
  pub step : step_in t ≡ acts t (after_answer t.at.state (path_of t) (instance_of t) at.cell z) n

pub record Returns (t : InHand) (n : ℕ) (z : ℤ) : Type 0 where
  pub step : step_in t ≡ ends (after_return t.at.state (path_of t) (instance_of t) z) (returned (path_of t) n)
  pub childless : has_live_child t.machine.nodes t.frame.id ≡ false

pub record Spawns (t : InHand) (n : ℕ) (receiver : Receiver) (callee : ℕ) (arguments : List ℤ) (to : ℕ) : Type 0 where
  pub taken : Option model.Receiver
  pub same : Receives (label t.program) (node_of t).procedure receiver taken
  pub takes : Takes (body_of t.program callee) arguments
  pub procedure : is_inlet (body_at (label t.program) callee).owner ≡ false
  -- action n of the program is a spawn of this procedure
  pub named : callee_of (label t.program) n ≡ Some callee
  pub room : (node_of t).children + 1 < 2 ^ 32
  pub step : step_in t
      ≡ spawns (child_path (path_of t) ((instance_of t).children + 1))
      (after_start (label t.program) t.at.state (path_of t) (instance_of t) taken callee arguments)
      (spawned (child_path (path_of t) ((instance_of t).children + 1)) n)
  pub next : IsNext t (pos 1) to

pub record Prints (t : InHand) (n : ℕ) (bytes : List ℕ) (to : ℕ) : Type 0 where
  pub step : step_in t ≡ acts t (after_print t.at.state (path_of t) (instance_of t) bytes) n
  pub next : IsNext t (pos 1) to

pub record TurnsLock (t : InHand) (n lock : ℕ) (now : Lock) (to : ℕ) : Type 0 where
  pub step : step_in t
      ≡ acts t (after_lock t.at.state (path_of t) (instance_of t) lock (lock_by (path_at t.machine.nodes) now)) n
  pub within : LockWithin (length t.machine.nodes) now
  pub next : IsNext t (pos 1) to

pub record Aborts (t : InHand) (n to : ℕ) : Type 0 where
  pub step : step_in t ≡ acts t (after_marks t.at.state (path_of t) (instance_of t)) n
  pub next : IsNext t (pos 1) to

abbrev pub IsPlan : InHand → Plan → Type 0
IsPlan t plan.TheVariants.Wait = step_in t ≡ waits
IsPlan t plan.TheVariants.Park = step_in t ≡ parks
IsPlan t plan.TheVariants.End = Ends t
IsPlan t (plan.TheVariants.Trap kind n) =
    step_in t ≡ goes_on (stopped t.at.state (path_of t) n (kind_of kind)) (trapped (kind_of kind) (path_of t) n)
IsPlan t (plan.TheVariants.Take child n reached z) = TakesOldest t child n reached z
IsPlan t (plan.TheVariants.Enter child n inlet arguments) = Enters t child n inlet arguments
IsPlan t (plan.TheVariants.Go n to) = Goes t n to
IsPlan t (plan.TheVariants.Write n reached z to) = Writes t n reached z to
IsPlan t (plan.TheVariants.Call n awaits callee arguments to) = Calls t n awaits callee arguments to
IsPlan t (plan.TheVariants.Leave n) = Leaves t n
IsPlan t (plan.TheVariants.Answer n reached z) = Answers t n reached z
IsPlan t (plan.TheVariants.Return n z) = Returns t n z
IsPlan t (plan.TheVariants.Spawn n receiver callee arguments to) = Spawns t n receiver callee arguments to
IsPlan t (plan.TheVariants.Print n bytes to) = Prints t n bytes to
IsPlan t (plan.TheVariants.TurnLock n lock now to) = TurnsLock t n lock now to
IsPlan t (plan.TheVariants.Abort n to) = Aborts t n to
