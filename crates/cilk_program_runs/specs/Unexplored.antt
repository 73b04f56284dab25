-- Why there is no exploration.
use Rattle.std.specs.Prelude.{◌≡◌, ℕ, Bool, true, List, Option}
use Rattle.cilk_program_tapes.specs.commands.Front.{AppendsFront}
use Rattle.cilk_program_tapes.specs.commands.Loading.{IsReady, Unready}
use Rattle.cilk_program_tapes.specs.commands.Status.{status_of as status_of_program}
use Rattle.cilk_program_tapes.specs.commands.Telling.{IsExplanation, WritesFailure}
use Rattle.cilk_program_tapes.specs.commands.syntax.Tree.{Program}
use Rattle.cilk_program_tapes.specs.commands.declared.failure.Failure.TheVariants as failure
use Rattle.cilk_program_tapes.specs.commands.declared.status.Status.{Status}
use Rattle.cilk_program_tapes.specs.commands.declared.status.Status.TheVariants as status
use Rattle.cilk_program_runs.specs.Exploring.{cannot_keep}
use Rattle.cilk_program_runs.specs.declared.unexplored.Unexplored.{Unexplored}
use Rattle.cilk_program_runs.specs.declared.unexplored.Unexplored.TheVariants as why

-- the status that tells of it
abbrev pub status_of : Unexplored → Status
status_of (why.Program found) = status_of_program found
status_of (why.CannotKeep number) = status.CannotRecord

-- the bytes of a text are no program that can be run, where that is told of; and a log cannot be written only where logs are wanted, and they are one
abbrev pub IsUnexplored : Bool → List ℕ → Unexplored → Type 0
IsUnexplored wanted text (why.Program found) = status_of_program found ≡ status.Refused → Unready text found
IsUnexplored wanted text (why.CannotKeep number) = (wanted ≡ true) × ((program : Program) × IsReady text program)

-- why logs cannot be kept of a program that can be run: memory runs out, or one cannot be written, where they are wanted
abbrev pub IsOfLogs : Bool → Unexplored → Type 0
IsOfLogs wanted (why.Program found) = found ≡ failure.Memory
IsOfLogs wanted (why.CannotKeep number) = wanted ≡ true

-- a writer has gained the line and what is told behind it, or the first bytes of them, of a text and a folder of these names
abbrev pub TellsUnexplored : Bool → List ℕ → List ℕ → List ℕ → Unexplored → Option (List ℕ) → Option (List ℕ) → Type 0
TellsUnexplored explain name folder text (why.Program found) old new =
    (behind : List ℕ) × (IsExplanation explain text found behind × WritesFailure name found behind old new)
TellsUnexplored explain name folder text (why.CannotKeep number) old new = AppendsFront old new (cannot_keep folder number)
