-- What is told in place of an answer about a recorded schedule.
use Rattle.std.specs.Prelude.{⊤, ◌≡◌, ◌≢◌, ℕ, Bool, true, List, [], ◌++◌, Option, None}
use Rattle.cilk_commands.specs.Front.{AppendsFront}
use Rattle.cilk_commands.specs.Held.{Held}
use Rattle.cilk_commands.specs.Loading.{IsReady, Unready}
use Rattle.cilk_commands.specs.Telling.{Explained, IsExplanation}
use Rattle.cilk_commands.specs.syntax.Tree.{Program}
use Rattle.cilk_commands.specs.declared.status.Status.{Status}
use Rattle.cilk_commands.specs.declared.status.Status.TheVariants as status
use Rattle.cilk_program_tapes.specs.Saying.{IsSaid}
use Rattle.cilk_program_tapes.specs.Telling.{failure_line, status_of}
use Rattle.cilk_program_tapes.specs.declared.failure.RecordFailure.{RecordFailure}
use Rattle.cilk_program_tapes.specs.declared.failure.RecordFailure.TheVariants as why

-- a writer has gained the line and what is told behind it, or the first bytes of them, since what cannot be written is lost
abbrev pub TellsWith : List ℕ → List ℕ → RecordFailure → List ℕ → Option (List ℕ) → Option (List ℕ) → Type 0
TellsWith program log found behind old new = AppendsFront old new (failure_line program log found ++ behind)

-- what is told behind the line: of a failure with the text of the program what explains it, and else nothing
abbrev pub IsBehind : Bool → List ℕ → RecordFailure → List ℕ → Type 0
IsBehind explain text (why.Program found) behind = IsExplanation explain text found behind
IsBehind explain text found behind = behind ≡ []

-- of a failure about a log: with the text of the program what explains it, and else what is noted
abbrev pub IsBehindLog : Bool → List ℕ → List ℕ → RecordFailure → List ℕ → Type 0
IsBehindLog explain text note (why.Program found) behind = IsExplanation explain text found behind
IsBehindLog explain text note found behind = behind ≡ note

-- of texts that readers held: of a failure with the program what explains it, and of a choice that is not possible what is told of it
abbrev pub IsToldBehind : Bool → Option (List ℕ) → Option (List ℕ) → RecordFailure → List ℕ → Type 0
IsToldBehind explain program log (why.Program found) behind = Explained explain program found behind
IsToldBehind explain program log found behind = IsSaid explain log found behind

-- why the bytes of a text are no program that may be run
abbrev pub NoProgram : List ℕ → List ℕ → RecordFailure → Type 0
NoProgram program log (why.Program found) = Unready program found
NoProgram program log found = ⊥

-- what is no failure with the text of the program is told only where that is a program that can be run
abbrev pub FollowsProgram : List ℕ → RecordFailure → Type 0
FollowsProgram text (why.Program found) = ⊤
FollowsProgram text found = (program : Program) × IsReady text program

-- in place of an answer a writer is told of a failure: the status is that failure's, and texts that are refused have it
pub record GivesUp (Reason : List ℕ → List ℕ → RecordFailure → Type 0) (explain : Bool) (program_name log_name : List ℕ) (ended : Status)
    (program log old new : Option (List ℕ)) : Type 0 where
  pub why : RecordFailure
  pub status_is : ended ≡ status_of why
  pub declined : ended ≡ status.Refused → Held program (λ text. Held log (λ bytes. Reason text bytes why))
  pub follows : Held program (λ text. FollowsProgram text why)
  pub behind : List ℕ
  pub explained : IsToldBehind explain program log why behind
  pub told : TellsWith program_name log_name why behind old new

-- what may keep so many workers from a run, with a log that is wanted or without one: an only worker is not started
abbrev pub IsOfRun : ℕ → Bool → RecordFailure → Type 0
IsOfRun workers wanted (why.Program found) = ⊤
IsOfRun workers wanted why.CannotStore = wanted ≡ true
IsOfRun workers wanted why.CannotStart = workers ≢ 1
IsOfRun workers wanted found = ⊥

-- what is told in place of a run
pub record GivesUpRun (workers : ℕ) (wanted explain : Bool) (program_name log_name : List ℕ) (ended : Status) (program old new : Option (List ℕ)) : Type 0 where
  pub is : GivesUp NoProgram explain program_name log_name ended program None old new
  pub of_run : IsOfRun workers wanted is.why
