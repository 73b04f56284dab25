-- Why there is no debugger.
use Rattle.std.specs.Prelude.{◌≡◌, ⊤, ℕ, List, Option, true, false}
use Rattle.cilk_debug_console.specs.syntax.ProgramText.{program_text}
use Rattle.cilk_debug_console.specs.log.Naming.{is_of}
use Rattle.cilk_debug_console.specs.model.Run.{is_crew}
use Rattle.cilk_log_replay.specs.Tape.{Tape}
use Rattle.cilk_log_replay.specs.ReplayFaults.{IsFirst}
use Rattle.cilk_log_replay.specs.declared.replay_fault.ReplayFault.{ReplayFault}
use Rattle.cilk_log_replay.specs.declared.replay_fault.ReplayFault.TheVariants as replay
use Rattle.cilk_debug.specs.declared.fault.DebugFault.{DebugFault}
use Rattle.cilk_debug.specs.declared.fault.DebugFault.TheVariants.{OtherProgram, Workers, BadChoice, AtEnd, AtStart, NoStatement, OutOfRange, Memory}

-- why there is no debugger of a schedule that cannot be replayed
abbrev pub debug_fault : ReplayFault → DebugFault
debug_fault replay.OtherProgram = OtherProgram
debug_fault replay.Workers = Workers
debug_fault (replay.BadChoice k refusal) = BadChoice k refusal
debug_fault replay.Memory = Memory

-- of a schedule which may name its program: it is of another, or else the workers are too many or none, or else a choice is the first that is not possible;
-- memory may always run out
abbrev pub IsNamedDebugFaultOf : Option (List ℕ) → Tape → DebugFault → Type 0
IsNamedDebugFaultOf named t OtherProgram = is_of named (program_text t.program) ≡ false
IsNamedDebugFaultOf named t Workers = (is_of named (program_text t.program) ≡ true) × (is_crew t.workers ≡ false)
IsNamedDebugFaultOf named t (BadChoice k refusal) = (is_of named (program_text t.program) ≡ true) × IsFirst t k refusal
IsNamedDebugFaultOf named t AtEnd = ⊥
IsNamedDebugFaultOf named t AtStart = ⊥
IsNamedDebugFaultOf named t NoStatement = ⊥
IsNamedDebugFaultOf named t OutOfRange = ⊥
IsNamedDebugFaultOf named t Memory = ⊤
