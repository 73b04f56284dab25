-- A program and a recorded schedule of it, and why there are none.
use Rattle.std.specs.Prelude.{◌≡◌, ⊤, true, ℕ, List, Option, Ok}
use Rattle.cilk_commands.specs.syntax.Tree.{Program}
use Rattle.cilk_commands.specs.ProgramText.{program_text}
use Rattle.cilk_log_replay.specs.log.Naming.{is_of}
use Rattle.cilk_log_replay.specs.log.Reading.{log_read}
use Rattle.cilk_log_replay.specs.log.Words.{fault_of, IsFault}
use Rattle.cilk_log_replay.specs.log.declared.fault.LogFault.{LogFault}
use Rattle.cilk_log_replay.specs.Tape.{Tape}
use Rattle.cilk_log_replay.specs.ReplayFaults.{IsNamedFaultOf}
use Rattle.cilk_log_replay.specs.declared.replay_fault.ReplayFault.{ReplayFault}
use Rattle.cilk_commands.specs.Loading.{IsReady, Unready}
use Rattle.cilk_commands.specs.declared.failure.Failure.TheVariants as failure
use Rattle.cilk_program_tapes.specs.declared.failure.RecordFailure.{RecordFailure}
use Rattle.cilk_program_tapes.specs.declared.failure.RecordFailure.TheVariants as why

-- the bytes of a text are a program that can be run, and these bytes are the text of a recorded schedule, which may name its program
pub record IsTape (text bytes : List ℕ) (named : Option (List ℕ)) (tape : Tape) : Type 0 where
  pub ready : IsReady text tape.program
  pub read : log_read bytes ≡ Ok (record { program = named; workers = tape.workers; choices = tape.choices })

-- and it names no other
pub record IsOwnTape (text bytes : List ℕ) (tape : Tape) : Type 0 where
  pub named : Option (List ℕ)
  pub is : IsTape text bytes named tape
  pub own : is_of named (program_text tape.program) ≡ true

-- why these bytes are not read as a recorded schedule: the reader of them may fail, and memory run out
abbrev pub IsUnread : List ℕ → RecordFailure → Type 0
IsUnread bytes (why.Program failure.Memory) = ⊤
IsUnread bytes (why.Program found) = ⊥
IsUnread bytes why.CannotRead = ⊤
IsUnread bytes (why.Log fault) = IsFault (log_read bytes) (fault_of fault)
IsUnread bytes found = ⊥

-- there is a program, and the bytes are no recorded schedule, for the first reason from the top
pub record IsNoLog (text bytes : List ℕ) (fault : LogFault) : Type 0 where
  pub program : Program
  pub ready : IsReady text program
  pub first : IsFault (log_read bytes) (fault_of fault)

-- there are both, and the schedule is of another program, or its choices cannot all be made again
pub record IsNotPlayable (text bytes : List ℕ) (fault : ReplayFault) : Type 0 where
  pub named : Option (List ℕ)
  pub tape : Tape
  pub is : IsTape text bytes named tape
  pub told : IsNamedFaultOf named tape fault

-- why there is nothing to replay: the text of the program is looked at first
abbrev pub Declines : List ℕ → List ℕ → RecordFailure → Type 0
Declines text bytes (why.Program found) = Unready text found
Declines text bytes (why.Log fault) = IsNoLog text bytes fault
Declines text bytes (why.Replay fault) = IsNotPlayable text bytes fault
Declines text bytes found = ⊥
