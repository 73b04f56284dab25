-- What is kept of a machine between two choices, by which a machine is put there again, beside a later one of the same program.
use Rattle.std.specs.Prelude.{◌≡◌, ◌≤◌, ℕ, Bool, []}
use Rattle.cilk_machine_undo.specs.syntax.Tree.{Program}
use Rattle.cilk_machine_undo.specs.agree.Agrees.{MachineParts}
use Rattle.cilk_machine_undo.specs.Moment.{Moment, IsMomentOf, IsBefore, running_as}
use Rattle.cilk_sched.specs.model.Choice.{Choice}
use Rattle.cilk_sched.specs.model.Event.{Event}
use Rattle.cilk_sched.specs.declared.outcome.Outcome.{Outcome}
use Rattle.cilk_machine.specs.Situation.{Situation, workers_of, outcome_at}
use Rattle.cilk_machine.specs.Stands.{IsSound}
use Rattle.cilk_machine.specs.Made.{Makes}

pub record Checkpoint : Type 0 where
  pub moment : Moment
  pub outcome : Outcome
  -- the instance that was trapped, if one was
  pub trapper : ℕ
  pub choices : ℕ

-- it is kept of this machine
pub record IsCheckpointOf (k : Checkpoint) (m : Situation) : Type 0 where
  pub moment : IsMomentOf k.moment m.machine
  pub outcome : k.outcome ≡ m.outcome
  pub named : m.machine.outside.outcome ≡ outcome_at k.trapper m.outcome
  pub choices : k.choices ≡ m.choices
  pub sound : IsSound m

-- what a whole image keeps of a machine: all but its program and its records
pub record Image : Type 0 where
  pub machine : MachineParts
  pub outcome : Outcome
  pub trapper : ℕ
  pub choices : ℕ

-- it is an image of this machine
pub record IsImageOf (k : Image) (m : Situation) : Type 0 where
  pub machine : k.machine ≡ running_as m.machine
  pub outcome : k.outcome ≡ m.outcome
  pub named : m.machine.outside.outcome ≡ outcome_at k.trapper m.outcome
  pub choices : k.choices ≡ m.choices
  pub sound : IsSound m

-- it is an image of some machine of this program
pub record WasImage (k : Image) (program : Program) : Type 0 where
  pub situation : Situation
  pub kept : IsImageOf k situation
  pub own : situation.program ≡ program

-- the same program by as many workers, at no earlier choice, which tells what had ended and what was printed
pub record IsEarlier (m later : Situation) : Type 0 where
  pub program : later.program ≡ m.program
  pub workers : workers_of later ≡ workers_of m
  pub order : m.choices ≤ later.choices
  pub before : IsBefore m.choices m.machine later.machine

-- it was kept of some machine of this program, before the later one
pub record WasThere (k : Checkpoint) (program : Program) (later : Situation) : Type 0 where
  pub situation : Situation
  pub kept : IsCheckpointOf k situation
  pub earlier : IsEarlier situation later
  pub own : situation.program ≡ program

-- it stands there without records
abbrev pub without_past : Bool → Situation → Situation
without_past keeps m = record m { keeps = keeps; past = [] }

-- a machine tells of itself
abbrev pub TellsItself : Type 0
TellsItself = (m : Situation) → IsSound m → IsEarlier m m

-- and what a choice makes of one that tells goes on telling
abbrev pub GoesOnTelling : Type 0
GoesOnTelling = (m now later : Situation) (choice : Choice) (did : Event) → IsEarlier m now → Makes now later choice did → IsEarlier m later
