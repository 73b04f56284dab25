-- Looking ahead at a step, and taking it by the value of what was seen.
use Rattle.std.specs.Prelude.{◌≡◌, ◌≢◌, ◌⊎◌, ◌-◌, ℕ, ℤ, not, if◌then◌else◌, List, [], slice_get, Option, Some, None, is_some, option_map}
use Rattle.std.specs.Prelude.{option_and_then, Result, Ok, Err}
use Rattle.cilk_machine_undo.specs.frame.Frames.{Frame}
use Rattle.cilk_machine_undo.specs.plans.declared.light.Light.{Light}
use Rattle.cilk_machine_undo.specs.plans.declared.plan.Plan.{Plan}
use Rattle.cilk_machine_undo.specs.plans.Words.{plan_of}
use Rattle.cilk_machine_undo.specs.spawn.Nodes.{path_at}
use Rattle.cilk_sched.specs.model.Path.{Path}
use Rattle.cilk_sched.specs.model.Hands.{hand_of}
use Rattle.cilk_sched.specs.declared.refusal.Refusal.{Refusal}
use Rattle.cilk_sched.specs.declared.refusal.Refusal.TheVariants.{Over, NoWorker, HandEmpty, Memory, Stale}
use Rattle.cilk_machine_undo.specs.eval.Known.{known}
use Rattle.cilk_machine_undo.specs.eval.declared.known.Known.{Known}
use Rattle.cilk_machine_undo.specs.nodes.declared.slot.Slot.{Slot}
use Rattle.cilk_sched.specs.model.declared.trap.Trap.{Trap}
use Rattle.cilk_machine_undo.specs.labelled.Term.{Term}
use Rattle.cilk_machine_undo.specs.labelled.Value.{value_of}
use Rattle.cilk_machine_step.specs.Peeks.{Peek, peek_in}
use Rattle.cilk_machine.specs.Situation.{Situation, workers_of, input_at}
use Rattle.cilk_machine.specs.Refused.{runs, is_worker_of, is_full}

-- the first reason why the worker has no step to look at
abbrev pub look_refused : Situation → ℕ → Option Refusal
look_refused m w =
    if not (runs m.outcome) then Some Over
    else (if not (is_worker_of (workers_of m) w) then Some NoWorker
    else (if is_full m.machine.places w then None
    else Some HandEmpty))

abbrev pub peek_by : Situation → Frame → Option Peek
peek_by m f = peek_in (input_at m f)

-- what the worker sees of its step
abbrev pub peek_at : Situation → ℕ → Option Peek
peek_at m w = option_and_then (peek_by m) (hand_of m.machine.places w)

-- the number of the action of which it sees something
abbrev pub number_ahead : Situation → ℕ → Option ℕ
number_ahead m w = if is_some (look_refused m w) then None else option_map (λ (peek : Peek). peek.n) (peek_at m w)

-- the instance in a hand
abbrev pub path_by : Situation → Option Frame → Path
path_by m None = []
path_by m (Some f) = path_at m.machine.nodes f.id

-- what it sees where its instance stands before action n, which evaluates that expression, of whose variables this is known
abbrev pub taken_down_at : Situation → ℕ → ℕ → Term Slot → List Known → Peek
taken_down_at m w n code values = record { path = path_by m (hand_of m.machine.places w); n = n; code = code; values = values }

-- it sees an action of this number, of whose expression this is known
pub record IsTakenDown (m : Situation) (w n : ℕ) (expressions : List (Option (Term Slot))) (values : List Known) : Type 0 where
  pub free : look_refused m w ≡ None
  pub peek : Peek
  pub seen : peek_at m w ≡ Some peek
  pub number : peek.n ≡ n
  pub values_are : slice_get expressions (n - 1) ≡ Some (Some peek.code) → values ≡ peek.values

-- it sees an action of this number, whose expression has this value over what the variables hold
pub record IsSeenAt (m : Situation) (w n : ℕ) (value : Result ℤ Trap) : Type 0 where
  pub peek : Peek
  pub seen : peek_at m w ≡ Some peek
  pub number : peek.n ≡ n
  pub value_is : value ≡ value_of (known peek.values) peek.code

-- why one does not see: want of memory is told only where there is no other reason
abbrev pub IsUnseen : Situation → ℕ → Refusal → Type 0
IsUnseen m w r = (look_refused m w ≡ Some r) ⊎ ((r ≡ Memory) × (look_refused m w ≡ None))

-- the worker's step is not as it was seen
pub record IsStale (m : Situation) (w : ℕ) (peek : Peek) (r : Refusal) : Type 0 where
  pub reason : r ≡ Stale
  pub free : look_refused m w ≡ None
  pub other : peek_at m w ≢ Some peek

-- it is, and memory is wanted
pub record IsShort (m : Situation) (w : ℕ) (peek : Peek) (r : Refusal) : Type 0 where
  pub reason : r ≡ Memory
  pub free : look_refused m w ≡ None
  pub same : peek_at m w ≡ Some peek

-- why a step is not taken by what was seen of it
abbrev pub IsUnsettled : Situation → ℕ → Peek → Refusal → Type 0
IsUnsettled m w peek r = (look_refused m w ≡ Some r) ⊎ (IsStale m w peek r ⊎ IsShort m w peek r)

-- a plan, light or not
abbrev pub plan_by : Result Light Plan → Plan
plan_by (Ok light) = plan_of light
plan_by (Err plan) = plan
