-- What a debugger's session writes.
use Rattle.std.specs.Prelude.{◌≡◌, ℕ, false, List, ◌++◌, Option, None, IfSome, replicate}
use Rattle.cilk_program_tapes.specs.commands.labelled.Count.{count_program}
use Rattle.cilk_program_tapes.specs.replay.Tape.{Tape, IsPlayable}
use Rattle.cilk_debug.specs.Debugging.{Debugging}
use Rattle.cilk_debug.specs.Session.{session}
use Rattle.cilk_debug.specs.declared.session_fault.SessionFault.{SessionFault}
use Rattle.cilk_debug.specs.declared.session_fault.SessionFault.TheVariants as ending
use Rattle.cilk_program_tapes.specs.commands.Front.{Gains, GainsFront}
use Rattle.cilk_program_tapes.specs.commands.Held.{Held}
use Rattle.cilk_program_tapes.specs.commands.declared.failure.Failure.TheVariants as failure
use Rattle.cilk_program_tapes.specs.Taped.{IsOwnTape}
use Rattle.cilk_program_tapes.specs.declared.failure.RecordFailure.{RecordFailure}
use Rattle.cilk_program_tapes.specs.declared.failure.RecordFailure.TheVariants as why

-- a debugger before the first choice, without a breakpoint
abbrev pub opened : Tape → Debugging
opened t = record { tape = t; position = 0; marks = replicate (count_program t.program) false }

-- a recorded schedule of the program that the bytes of a text are, and these are the answers to the commands, none of which is at fault
pub record IsSession (text bytes commands answers : List ℕ) : Type 0 where
  pub tape : Tape
  pub is_tape : IsOwnTape text bytes tape
  pub whole : IsPlayable tape
  pub left : Debugging
  pub answered : session (opened tape) commands ≡ record { replies = answers; left = left; fault = None }

-- the same, and these are the answers to what stands in front of the commands, it may be all of them
pub record IsPart (text bytes commands answers : List ℕ) : Type 0 where
  pub tape : Tape
  pub is_tape : IsOwnTape text bytes tape
  pub whole : IsPlayable tape
  pub lines : List ℕ
  pub rest : List ℕ
  pub split : commands ≡ lines ++ rest
  pub answered : (session (opened tape) lines).replies ≡ answers

-- a writer has gained the answers to the commands that a reader held, where these are known
abbrev pub GainsOf : (List ℕ → List ℕ → Type 0) → Option (List ℕ) → Option (List ℕ) → Option (List ℕ) → Type 0
GainsOf Are commands old new = IfSome commands (λ lines. Gains (Are lines) old new)

-- or has failed in them, and has gained the first of their bytes
abbrev pub GainsFrontOf : (List ℕ → List ℕ → Type 0) → Option (List ℕ) → Option (List ℕ) → Option (List ℕ) → Type 0
GainsFrontOf Are commands old new = IfSome commands (λ lines. GainsFront (Are lines) old new)

-- of what three readers held
abbrev pub Debugs : Option (List ℕ) → Option (List ℕ) → Option (List ℕ) → Option (List ℕ) → Option (List ℕ) → Type 0
Debugs program log commands old new =
    GainsOf (λ lines answers. Held program (λ text. Held log (λ bytes. IsSession text bytes lines answers))) commands old new

abbrev pub DebugsPart : Option (List ℕ) → Option (List ℕ) → Option (List ℕ) → Option (List ℕ) → Option (List ℕ) → Type 0
DebugsPart program log commands old new =
    GainsOf (λ lines answers. Held program (λ text. Held log (λ bytes. IsPart text bytes lines answers))) commands old new

abbrev pub DebugsFront : Option (List ℕ) → Option (List ℕ) → Option (List ℕ) → Option (List ℕ) → Option (List ℕ) → Type 0
DebugsFront program log commands old new =
    GainsFrontOf (λ lines answers. Held program (λ text. Held log (λ bytes. IsPart text bytes lines answers))) commands old new

-- what is told where a session broke off
abbrev pub broken_off : SessionFault → RecordFailure
broken_off (ending.Read fault) = why.Commands
broken_off ending.Write = why.Answers
broken_off ending.Memory = why.Program failure.Memory
