-- What is told of a choice of a log that is not possible, and of a trap behind an answer.
use Rattle.std.specs.Prelude.{⊤, ◌≡◌, ◌⊎◌, ℕ, Bool, true, false, List, [], ◌++◌, Option, Some, None, codes}
use Rattle.std.specs.Io.KnownBytes.{Appends}
use Rattle.cilk_log_replay.specs.machine.model.End as model
use Rattle.cilk_log_replay.specs.machine.model.Path.{Path}
use Rattle.cilk_log_replay.specs.machine.model.State.{TrapKind}
use Rattle.cilk_log_replay.specs.machine.frame.Kinds.{kind_of}
use Rattle.cilk_log_replay.specs.log.choices.declared.end.End.{End}
use Rattle.cilk_log_replay.specs.log.choices.declared.end.End.TheVariants as ends
use Rattle.cilk_log_replay.specs.log.choices.declared.refusal.Refusal.{Refusal}
use Rattle.cilk_log_replay.specs.log.Text.{Log}
use Rattle.cilk_log_replay.specs.declared.replay_fault.ReplayFault.{ReplayFault}
use Rattle.cilk_log_replay.specs.declared.replay_fault.ReplayFault.TheVariants as replay
use Rattle.cilk_commands.specs.Front.{AppendsFront}
use Rattle.cilk_commands.specs.Held.{Held, IsReadOf}
use Rattle.cilk_commands.specs.Telling.{IsActionTold}
use Rattle.cilk_commands.specs.declared.status.Status.{Status}
use Rattle.cilk_commands.specs.declared.status.Status.TheVariants as status
use Rattle.cilk_program_tapes.specs.ChoiceLines.{IsChoiceOf, IsChoiceTold}
use Rattle.cilk_program_tapes.specs.Meanings.{trap_meaning}
use Rattle.cilk_program_tapes.specs.declared.trapped.Trapped.{Trapped}
use Rattle.cilk_program_tapes.specs.declared.failure.RecordFailure.{RecordFailure}
use Rattle.cilk_program_tapes.specs.declared.failure.RecordFailure.TheVariants as why

-- ---- a choice that is not possible

-- why choices of a log cannot be made again, in more words: of a choice that is not possible where it stands and why, unless memory does not suffice;
-- nothing of another fault, and where more is not asked for
abbrev pub IsFaultTold : Bool → Log → ReplayFault → List ℕ → Type 0
IsFaultTold true log (replay.BadChoice k reason) told = (told ≡ []) ⊎ IsChoiceOf log k reason told
IsFaultTold explain log fault told = told ≡ []

-- the same of a log that a reader held
abbrev pub IsChoiceSaid : Bool → Option (List ℕ) → ℕ → Refusal → List ℕ → Type 0
IsChoiceSaid true log k reason said = (said ≡ []) ⊎ Held log (λ bytes. IsChoiceTold bytes k reason said)
IsChoiceSaid false log k reason said = said ≡ []

abbrev pub IsSaid : Bool → Option (List ℕ) → RecordFailure → List ℕ → Type 0
IsSaid explain log (why.Replay (replay.BadChoice k reason)) said = IsChoiceSaid explain log k reason said
IsSaid explain log found said = said ≡ []

-- ---- a trap

-- more is told of how a program ended: it is asked for, and the program was trapped
abbrev pub tells_trap : Bool → Status → Bool
tells_trap explain status.Trapped = explain
tells_trap explain ended = false

-- the closing text tells of a trap of this kind, at the action of this number
pub record ClosesTrapped (answer : List ℕ) (kind : TrapKind) (number : ℕ) : Type 0 where
  pub printed : List ℕ
  pub path : Path
  pub line : ℕ
  pub choices : ℕ
  pub is : answer ≡ model.ending printed (model.trapped kind path number line) choices

-- the trap that ended a run, if one did
abbrev pub trap_of : End → Option Trapped
trap_of (ends.Finished value) = None
trap_of (ends.Trapped kind path n line) = Some (record { kind = kind; n = n })
trap_of ends.Stuck = None
trap_of ends.Limit = None

-- a trap that the closing text tells of, if there is one
abbrev pub IsTrapOf : List ℕ → Option Trapped → Type 0
IsTrapOf answer None = ⊤
IsTrapOf answer (Some trap) = ClosesTrapped answer (kind_of trap.kind) trap.n

-- of the trap that a closing text tells of: where in the text of this name its action stands, and what the trap means
pub record IsTrapTold (answer name text told : List ℕ) : Type 0 where
  pub kind : TrapKind
  pub number : ℕ
  pub closes : ClosesTrapped answer kind number
  pub place : List ℕ
  pub stands : IsActionTold name text number place
  pub is : told ≡ place ++ (trap_meaning kind ++ codes ".\n")

-- a writer has gained that, or the first bytes of it, or nothing, since memory may not suffice
pub record TellsTrap (answer name text : List ℕ) (old new : Option (List ℕ)) : Type 0 where
  pub told : List ℕ
  pub is : (told ≡ []) ⊎ IsTrapTold answer name text told
  pub written : AppendsFront old new told

-- the same of the closing text that another writer has gained, and of a text that a reader held
pub record ExplainsTrap (name : List ℕ) (known old new err_old err_new : Option (List ℕ)) : Type 0 where
  pub answer : List ℕ
  pub answered : Appends old new answer
  pub text : List ℕ
  pub read : IsReadOf known text
  pub is : TellsTrap answer name text err_old err_new
