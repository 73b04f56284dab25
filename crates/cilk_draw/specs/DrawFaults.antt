-- Why a recorded schedule is not drawn.
use Rattle.std.specs.Prelude.{◌≡◌, ℕ, true, ⊤, List, Option}
use Rattle.cilk_log_replay.specs.log.Naming.{is_of}
use Rattle.cilk_log_replay.specs.machine.syntax.ProgramText.{program_text}
use Rattle.cilk_log_replay.specs.ReplayFaults.{IsNamedFaultOf}
use Rattle.cilk_log_replay.specs.Tape.{Tape, IsPlayable}
use Rattle.cilk_log_replay.specs.declared.replay_fault.ReplayFault.TheVariants.{OtherProgram, Workers, BadChoice, Memory}
use Rattle.cilk_draw.specs.declared.fault.DrawFault.{DrawFault}
use Rattle.cilk_draw.specs.declared.fault.DrawFault.TheVariants.{Replay, TooLong}

-- its choices cannot be made again; or it names no other program and they can, and too many columns are to be drawn
abbrev pub IsDrawFaultOf : Option (List ℕ) → Tape → DrawFault → Type 0
IsDrawFaultOf named t (Replay why) = IsNamedFaultOf named t why
IsDrawFaultOf named t TooLong = (is_of named (program_text t.program) ≡ true) × IsPlayable t

-- why one that can be replayed is not drawn
abbrev pub IsOwn : DrawFault → Type 0
IsOwn (Replay OtherProgram) = ⊥
IsOwn (Replay Workers) = ⊥
IsOwn (Replay (BadChoice k refusal)) = ⊥
IsOwn (Replay Memory) = ⊤
IsOwn TooLong = ⊤
