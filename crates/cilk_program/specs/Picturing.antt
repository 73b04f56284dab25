-- What `draw` writes, and why it writes nothing. Nothing is promised of how a picture looks: its boxes are compared with the log by a tool.
use Rattle.std.specs.Prelude.{ℕ, List, Option}
use Rattle.cilk_program_runs.specs.commands.Front.{Gains, GainsFront}
use Rattle.cilk_program_runs.specs.commands.Held.{Held}
use Rattle.cilk_program_runs.specs.commands.Loading.{Unready}
use Rattle.cilk_draw.specs.declared.fault.DrawFault.{DrawFault}
use Rattle.cilk_draw.specs.declared.fault.DrawFault.TheVariants as fault
use Rattle.cilk_draw.specs.replay.Tape.{Tape, IsPlayable}
use Rattle.cilk_program_runs.specs.Taped.{IsNoLog, IsNotPlayable, IsOwnTape}
use Rattle.cilk_program_runs.specs.tapes.declared.failure.RecordFailure.{RecordFailure}
use Rattle.cilk_program_runs.specs.tapes.declared.failure.RecordFailure.TheVariants as why

-- there is a recorded schedule of the program, and its choices can all be made again, so that there may be a picture of it
pub record IsDrawable (text bytes : List ℕ) : Type 0 where
  pub tape : Tape
  pub is_tape : IsOwnTape text bytes tape
  pub whole : IsPlayable tape

-- the failure that tells of a fault
abbrev pub failure_of : DrawFault → RecordFailure
failure_of (fault.Replay found) = why.Replay found
failure_of fault.TooLong = why.TooLong

-- why there is no picture
abbrev pub DeclinesToDraw : List ℕ → List ℕ → RecordFailure → Type 0
DeclinesToDraw text bytes (why.Program found) = Unready text found
DeclinesToDraw text bytes (why.Log found) = IsNoLog text bytes found
DeclinesToDraw text bytes (why.Replay found) = IsNotPlayable text bytes found
DeclinesToDraw text bytes why.TooLong = IsDrawable text bytes
DeclinesToDraw text bytes found = ⊥

-- a writer has gained a picture, of what readers held, or has failed in it

abbrev pub Depicts : Option (List ℕ) → Option (List ℕ) → Option (List ℕ) → Option (List ℕ) → Type 0
Depicts program log old new = Gains (λ answer. Held program (λ text. Held log (λ bytes. IsDrawable text bytes))) old new

abbrev pub DepictsFront : Option (List ℕ) → Option (List ℕ) → Option (List ℕ) → Option (List ℕ) → Type 0
DepictsFront program log old new = GainsFront (λ answer. Held program (λ text. Held log (λ bytes. IsDrawable text bytes))) old new
