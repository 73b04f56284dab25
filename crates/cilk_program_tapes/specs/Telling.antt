-- The line that tells why there is no answer about a recorded schedule, and the status.
use Rattle.std.specs.Prelude.{ℕ, List, ◌++◌, codes, decimal}
use Rattle.cilk_log_replay.specs.log.choices.declared.refusal.Refusal.{Refusal}
use Rattle.cilk_log_replay.specs.log.choices.declared.refusal.Refusal.TheVariants as refusal
use Rattle.cilk_log_replay.specs.log.declared.fault.LogFault.{LogFault}
use Rattle.cilk_log_replay.specs.log.declared.fault.LogFault.TheVariants as log
use Rattle.cilk_log_replay.specs.declared.replay_fault.ReplayFault.{ReplayFault}
use Rattle.cilk_log_replay.specs.declared.replay_fault.ReplayFault.TheVariants as replay
use Rattle.cilk_commands.specs.declared.failure.Failure.TheVariants as failure
use Rattle.cilk_commands.specs.declared.status.Status.{Status}
use Rattle.cilk_commands.specs.declared.status.Status.TheVariants as status
use Rattle.cilk_commands.specs.Status.{status_of as status_of_program}
use Rattle.cilk_commands.specs.Telling.{failure_line as line_of_program}
use Rattle.cilk_program_tapes.specs.declared.failure.RecordFailure.{RecordFailure}
use Rattle.cilk_program_tapes.specs.declared.failure.RecordFailure.TheVariants as why

-- the code of a refusal
abbrev pub code_of : Refusal → List ℕ
code_of refusal.Over = codes "M1"
code_of refusal.NoWorker = codes "M2"
code_of refusal.HandEmpty = codes "M3"
code_of refusal.Busy = codes "M4"
code_of refusal.DequeEmpty = codes "M5"
code_of refusal.Waiting = codes "M6"
code_of refusal.Memory = codes "M7"
code_of refusal.Stale = codes "M8"

-- the line and its newline, for a text of this name; want of memory has no name
abbrev pub log_line : List ℕ → LogFault → List ℕ
log_line name log.Version = name ++ codes ": G1 Version\n"
log_line name (log.Line number) = name ++ (codes ": G2 Line " ++ (decimal number ++ codes "\n"))
log_line name log.Truncated = name ++ codes ": G3 Truncated\n"
log_line name log.Count = name ++ codes ": G4 Count\n"
log_line name log.TooMany = name ++ codes ": G6 TooMany\n"
log_line name log.Memory = line_of_program name failure.Memory

abbrev pub choice_line : List ℕ → List ℕ → List ℕ → List ℕ
choice_line name number code = name ++ (codes ": B1 BadChoice " ++ (number ++ (codes " " ++ (code ++ codes "\n"))))

abbrev pub replay_line : List ℕ → ReplayFault → List ℕ
replay_line name replay.OtherProgram = name ++ codes ": G5 OtherProgram\n"
replay_line name replay.Workers = name ++ codes ": B0 Workers\n"
replay_line name (replay.BadChoice number why) = choice_line name (decimal number) (code_of why)
replay_line name replay.Memory = line_of_program name failure.Memory

-- the same, for the text of a program and that of a recorded schedule of these names
abbrev pub failure_line : List ℕ → List ℕ → RecordFailure → List ℕ
failure_line program name (why.Program found) = line_of_program program found
failure_line program name why.CannotRead = line_of_program name failure.CannotRead
failure_line program name (why.Log found) = log_line name found
failure_line program name (why.Replay found) = replay_line name found
failure_line program name why.TooLong = name ++ codes ": too long to draw; try --from and --to\n"
failure_line program name why.CannotStore = codes "cilk: cannot write " ++ (name ++ codes "\n")
failure_line program name why.CannotStart = codes "cilk: cannot start a worker\n"
failure_line program name why.Commands = codes "cilk: session ended by B7\n"
failure_line program name why.Answers = codes "cilk: session ended by B8\n"

-- bytes that are no recorded schedule are refused, as is one whose choices cannot be made again
abbrev pub log_status : LogFault → Status
log_status log.Version = status.Refused
log_status (log.Line number) = status.Refused
log_status log.Truncated = status.Refused
log_status log.Count = status.Refused
log_status log.TooMany = status.Refused
log_status log.Memory = status.Memory

abbrev pub replay_status : ReplayFault → Status
replay_status replay.OtherProgram = status.Refused
replay_status replay.Workers = status.Refused
replay_status (replay.BadChoice number why) = status.Refused
replay_status replay.Memory = status.Memory

abbrev pub status_of : RecordFailure → Status
status_of (why.Program found) = status_of_program found
status_of why.CannotRead = status.CannotRead
status_of (why.Log found) = log_status found
status_of (why.Replay found) = replay_status found
status_of why.TooLong = status.Refused
status_of why.CannotStore = status.CannotRecord
status_of why.CannotStart = status.CannotStart
status_of why.Commands = status.CannotRead
status_of why.Answers = status.CannotWrite
