-- What a replay writes, and the status that tells how a program ended.
use Rattle.std.specs.Prelude.{◌≡◌, ℕ, List, length, Option, Some}
use Rattle.cilk_commands.specs.labelled.Bodies.{label}
use Rattle.cilk_log_replay.specs.machine.model.Run.{Standing, Position}
use Rattle.cilk_log_replay.specs.machine.model.End as model
use Rattle.cilk_log_replay.specs.machine.Situation.{Situation}
use Rattle.cilk_log_replay.specs.Tape.{Tape, position_at}
use Rattle.cilk_commands.specs.Front.{Gains, GainsFront}
use Rattle.cilk_commands.specs.Held.{Held}
use Rattle.cilk_commands.specs.declared.status.Status.{Status}
use Rattle.cilk_commands.specs.declared.status.Status.TheVariants as status
use Rattle.cilk_program_tapes.specs.Taped.{IsOwnTape}

-- the status that tells how a run ended
abbrev pub status_at : model.End → Status
status_at (model.finished value) = status.Done
status_at (model.trapped kind path n line) = status.Trapped
status_at model.stuck = status.Stuck
status_at model.limit = status.Limit

-- the closing text of a machine and the status that tells how it stands, where it stands there
pub record ClosesAt (m : Situation) (at : Standing) (status : Status) (answer : List ℕ) : Type 0 where
  pub tells : status ≡ status_at (model.end_now (label m.program) at)
  pub is : answer ≡ model.ending at.state.output (model.end_now (label m.program) at) m.choices

-- the closing text of where all choices of a recorded schedule lead the program that the bytes of a text are; the status tells how it stands there
pub record IsReplayed (status : Status) (text bytes answer : List ℕ) : Type 0 where
  pub tape : Tape
  pub is_tape : IsOwnTape text bytes tape
  pub at : Position
  pub led : position_at tape (length tape.choices) ≡ Some at
  pub tells : status ≡ status_at (model.end_now (label tape.program) at.standing)
  pub is : answer ≡ model.ending at.standing.state.output (model.end_now (label tape.program) at.standing) (length tape.choices)

-- of what two readers held
abbrev pub AreReplayed : Status → Option (List ℕ) → Option (List ℕ) → List ℕ → Type 0
AreReplayed status program log answer = Held program (λ text. Held log (λ bytes. IsReplayed status text bytes answer))

-- a writer has gained that, or has failed in it, and the status is lost
abbrev pub Replays : Status → Option (List ℕ) → Option (List ℕ) → Option (List ℕ) → Option (List ℕ) → Type 0
Replays status program log old new = Gains (λ answer. AreReplayed status program log answer) old new

abbrev pub ReplaysFront : Option (List ℕ) → Option (List ℕ) → Option (List ℕ) → Option (List ℕ) → Type 0
ReplaysFront program log old new = (status : Status) × GainsFront (λ answer. AreReplayed status program log answer) old new
