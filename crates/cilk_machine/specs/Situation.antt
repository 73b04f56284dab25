-- What contracts see of a machine.
use Rattle.std.specs.Prelude.{ℕ, Bool, true, false, List, ◌∷◌, length}
use Rattle.cilk_machine_undo.specs.syntax.Tree as tree
use Rattle.cilk_machine_undo.specs.frame.Frames.{Frame}
use Rattle.cilk_machine_undo.specs.agree.Outside as outside
use Rattle.cilk_machine_undo.specs.agree.Agrees.{MachineParts}
use Rattle.cilk_machine_undo.specs.frame.Kinds.{kind_of}
use Rattle.cilk_machine_undo.specs.plans.StepInput.{StepInput}
use Rattle.cilk_sched.specs.declared.outcome.Outcome.{Outcome}
use Rattle.cilk_sched.specs.declared.outcome.Outcome.TheVariants.{Running, Finished, Trapped}

-- what a program that ran was before a choice
pub record Before : Type 0 where
  pub machine : MachineParts
  pub choices : ℕ

-- the program, its parts, how it stands, and the number of choices made
pub record Situation : Type 0 where
  pub program : tree.Program
  pub machine : MachineParts
  pub outcome : Outcome
  pub choices : ℕ
  -- whether a record is kept of each choice
  pub keeps : Bool
  -- what it was before each choice whose record is kept, the last choice first
  pub past : List Before

abbrev pub before_of : Situation → Before
before_of m = record { machine = m.machine; choices = m.choices }

-- where records are kept one more is put in front
abbrev pub kept_by : {A : Type 0} → Bool → A → List A → List A
kept_by true x xs = x ∷ xs
kept_by false x xs = xs

-- what is kept behind a choice that was made
abbrev pub past_behind : Situation → List Before
past_behind m = kept_by m.keeps (before_of m) m.past

abbrev pub workers_of : Situation → ℕ
workers_of m = length m.machine.places

-- how it stands, where the instance that was trapped goes by its number
abbrev pub outcome_at : ℕ → Outcome → outside.Outcome
outcome_at id Running = outside.running
outcome_at id (Finished value) = outside.finished value
outcome_at id (Trapped kind path n) = outside.trapped (kind_of kind) id n

-- what a step of the instance of a frame looks at
abbrev pub input_at : Situation → Frame → StepInput
input_at m f = record {
  program = m.program;
  globals = m.machine.outside.cells;
  locks = m.machine.outside.locks;
  printed = length m.machine.outside.output;
  nodes = m.machine.nodes;
  frame = f;
}
