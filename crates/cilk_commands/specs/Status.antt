-- The statuses, and which one tells of a failure.
use Rattle.std.specs.Prelude.{◌≡◌, ℕ, Bool, true, false, List}
use Rattle.cilk_commands.specs.declared.failure.Failure.{Failure}
use Rattle.cilk_commands.specs.declared.failure.Failure.TheVariants as failure
use Rattle.cilk_commands.specs.declared.status.Status.{Status}
use Rattle.cilk_commands.specs.declared.status.Status.TheVariants as status

-- the number that the program exits with
abbrev pub code_of : Status → ℕ
code_of status.Done = 0
code_of status.Refused = 1
code_of status.Usage = 2
code_of status.Trapped = 3
code_of status.Stuck = 4
code_of status.Limit = 5
code_of status.Memory = 6
code_of status.CannotRead = 7
code_of status.CannotWrite = 7
code_of status.CannotRecord = 7
code_of status.CannotStart = 7
code_of status.Several = 8

-- a text that is no program that may be run is refused; any other failure has its own status
abbrev pub status_of : Failure → Status
status_of (failure.Fault fault line column) = status.Refused
status_of failure.NotUtf8 = status.Refused
status_of failure.TooMany = status.Refused
status_of failure.Memory = status.Memory
status_of failure.CannotRead = status.CannotRead
status_of failure.CannotWrite = status.CannotWrite

-- whether an answer was written
abbrev pub is_answer : Status → Bool
is_answer status.Done = true
is_answer status.Trapped = true
is_answer status.Stuck = true
is_answer status.Limit = true
is_answer status.Several = true
is_answer status.Refused = false
is_answer status.Usage = false
is_answer status.Memory = false
is_answer status.CannotRead = false
is_answer status.CannotWrite = false
is_answer status.CannotRecord = false
is_answer status.CannotStart = false

-- an answer of this kind to the bytes of a text, behind which all is done
abbrev pub IsDone : (List ℕ → List ℕ → Type 0) → List ℕ → Status → List ℕ → Type 0
IsDone Are text ended answer = (ended ≡ status.Done) × Are text answer
