-- What the code's words for recorded schedules and their faults mean.
use Rattle.std.specs.Prelude.{◌≡◌, ⊤, map, Option, Some, None, Result, Ok, Err}
use Rattle.cilk_sched.specs.Words.{choice_of}
use Rattle.cilk_log.specs.declared.log.Log.{Log}
use Rattle.cilk_log.specs.declared.fault.LogFault.{LogFault}
use Rattle.cilk_log.specs.declared.fault.LogFault.TheVariants.{Version, Line, Truncated, Count, TooMany, Memory}
use Rattle.cilk_log.specs.declared.stretch.Stretch as code
use Rattle.cilk_log.specs.Stretches.{Stretch}
use Rattle.cilk_log.specs.Text as text
use Rattle.cilk_log.specs.Reading as reading

abbrev pub log_of : Log → text.Log
log_of log = record { program = log.program; workers = log.workers; choices = map choice_of log.choices }

abbrev pub stretch_of : code.Stretch → Stretch
stretch_of stretch = record { choice = choice_of stretch.choice; times = stretch.times }

-- what a fault says of the bytes: want of memory is none of theirs
abbrev pub fault_of : LogFault → Option reading.Fault
fault_of Version = Some reading.wrong_version
fault_of (Line number) = Some (reading.wrong_line number)
fault_of Truncated = Some reading.truncated
fault_of Count = Some reading.wrong_count
fault_of TooMany = Some reading.too_many
fault_of Memory = None

abbrev pub IsFault : {A : Type 0} → Result A reading.Fault → Option reading.Fault → Type 0
IsFault read None = ⊤
IsFault read (Some fault) = read ≡ Err fault

-- The result, seen by view, is what was read, unless memory ran out.
abbrev pub ReadsAs : {A B : Type 0} → (A → B) → Result A LogFault → Result B reading.Fault → Type 0
ReadsAs view (Ok value) read = read ≡ Ok (view value)
ReadsAs view (Err fault) read = IsFault read (fault_of fault)
