-- A program with the choices that are made again, and where the first of them lead.
use Rattle.std.specs.Prelude.{◌≡◌, ℕ, List, map, take, length, Option, Some, None, slice_get}
use Rattle.cilk_machine.specs.syntax.Tree.{Program}
use Rattle.cilk_machine.specs.labelled.Bodies.{label}
use Rattle.cilk_machine.specs.model.Choice.{Choice, Refusal}
use Rattle.cilk_machine.specs.model.Event.{Event}
use Rattle.cilk_machine.specs.model.Run.{Position, after, refusal_of, event_of}
use Rattle.cilk_machine.specs.sched.declared.choice.Choice as code
use Rattle.cilk_machine.specs.sched.Words.{choice_of}
use Rattle.cilk_machine.specs.Situation.{Situation, workers_of}
use Rattle.cilk_machine.specs.Stands.{Led}

pub record Tape : Type 0 where
  pub program : Program
  pub workers : ℕ
  pub choices : List Choice

abbrev pub tape_of : Program → ℕ → List code.Choice → Tape
tape_of program workers choices = record { program = program; workers = workers; choices = map choice_of choices }

-- where the first k choices lead, if each of them is possible
abbrev pub position_at : Tape → ℕ → Option Position
position_at t k = after (label t.program) t.workers (take k t.choices)

-- what a choice did, where it was made
abbrev pub did_by : Program → Option Position → Option Choice → Option Event
did_by program None choice = None
did_by program (Some at) None = None
did_by program (Some at) (Some choice) = Some (event_of (label program) at.standing choice)

-- what the choice behind the first k did
abbrev pub did_at : Tape → ℕ → Option Event
did_at t k = did_by t.program (position_at t k) (slice_get t.choices k)

-- each choice is possible where it is made
pub record IsPlayable (t : Tape) : Type 0 where
  pub at : Position
  pub led : position_at t (length t.choices) ≡ Some at

-- the first k choices led the machine from the start of the program to where it is
pub record IsAt (t : Tape) (k : ℕ) (m : Situation) : Type 0 where
  pub program : m.program ≡ t.program
  pub workers : workers_of m ≡ t.workers
  pub choices : m.choices ≡ k
  pub at : Position
  pub led : Led m (take k t.choices) at.events at.standing

-- the k choices in front are possible, and the next is not, for this reason
pub record IsBad (t : Tape) (k : ℕ) (why : Refusal) : Type 0 where
  pub at : Position
  pub led : position_at t k ≡ Some at
  pub choice : Choice
  pub is : slice_get t.choices k ≡ Some choice
  pub refused : refusal_of (label t.program) at.standing choice ≡ Some why
