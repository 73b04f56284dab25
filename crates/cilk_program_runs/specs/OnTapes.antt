-- What is told of all choices of a tape: of a recorded schedule, or of a run by one worker.
use Rattle.std.specs.Prelude.{◌≡◌, ◌≤◌, ℕ, List, length, Option, Some, None}
use Rattle.cilk_program_tapes.specs.commands.Front.{Gains, GainsFront}
use Rattle.cilk_program_tapes.specs.commands.Held.{Held}
use Rattle.cilk_program_tapes.specs.commands.Loading.{IsReady}
use Rattle.cilk_program_tapes.specs.commands.declared.status.Status.{Status}
use Rattle.cilk_program_tapes.specs.commands.labelled.Bodies.{label}
use Rattle.cilk_program_tapes.specs.replay.Tape.{Tape, position_at}
use Rattle.cilk_run.specs.model.End as model
use Rattle.cilk_run.specs.model.Run.{Position}
use Rattle.cilk_program_tapes.specs.Taped.{IsOwnTape}

-- of a recorded schedule of the program that the bytes of a text are
pub record IsOfLog (Of : Tape → Status → List ℕ → Type 0) (text bytes : List ℕ) (status : Status) (answer : List ℕ) : Type 0 where
  pub tape : Tape
  pub is_tape : IsOwnTape text bytes tape
  pub is : Of tape status answer

-- so many choices a run has at most, of which there is no log
abbrev pub alone_limit : ℕ
alone_limit = 1000000

-- of a run by one worker
pub record IsOfRun (Of : Tape → Status → List ℕ → Type 0) (text : List ℕ) (status : Status) (answer : List ℕ) : Type 0 where
  pub tape : Tape
  pub ready : IsReady text tape.program
  pub alone : tape.workers ≡ 1
  pub at : Position
  pub led : position_at tape (length tape.choices) ≡ Some at
  pub within : length tape.choices ≤ alone_limit
  pub whole : model.end_now (label tape.program) at.standing ≡ model.limit → length tape.choices ≡ alone_limit
  pub is : Of tape status answer

-- a writer has gained that, of what readers held, or has failed in it
module _ (Of : Tape → Status → List ℕ → Type 0) (known log old new : Option (List ℕ)) where
  abbrev pub TellsLog : Status → Type 0
  TellsLog status = Gains (λ answer. Held known (λ text. Held log (λ bytes. IsOfLog Of text bytes status answer))) old new

  abbrev pub TellsLogFront : Type 0
  TellsLogFront = GainsFront (λ answer. Held known (λ text. Held log (λ bytes. (status : Status) × IsOfLog Of text bytes status answer))) old new

-- what is told of a run, or of the log of a name
module _ (OfRun : List ℕ → Status → List ℕ → Type 0) (Of : Tape → Status → List ℕ → Type 0) (known : Option (List ℕ))
    (held : List ℕ → Option (List ℕ)) (old new : Option (List ℕ)) where
  abbrev pub TellsAsAsked : Option (List ℕ) → Status → Type 0
  TellsAsAsked None status = Gains (λ answer. Held known (λ text. OfRun text status answer)) old new
  TellsAsAsked (Some log) status = TellsLog Of known (held log) old new status

  abbrev pub TellsFrontAsAsked : Option (List ℕ) → Type 0
  TellsFrontAsAsked None = GainsFront (λ answer. Held known (λ text. (status : Status) × OfRun text status answer)) old new
  TellsFrontAsAsked (Some log) = TellsLogFront Of known (held log) old new
