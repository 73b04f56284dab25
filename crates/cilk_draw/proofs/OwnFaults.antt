-- What is told of a schedule that can be replayed is so of it.
use Rattle.std.proofs.Common.{◌≡◌, ℕ, true, List, Option}
use Rattle.cilk_log_replay.specs.log.Naming.{is_of}
use Rattle.cilk_log_replay.specs.machine.syntax.ProgramText.{program_text}
use Rattle.cilk_log_replay.specs.Tape.{Tape, IsPlayable}
use Rattle.cilk_log_replay.specs.declared.replay_fault.ReplayFault.TheVariants.{OtherProgram, Workers, BadChoice, Memory}
use Rattle.cilk_draw.specs.declared.fault.DrawFault.{DrawFault}
use Rattle.cilk_draw.specs.declared.fault.DrawFault.TheVariants.{Replay, TooLong}
use Rattle.cilk_draw.specs.DrawFaults.{IsDrawFaultOf, IsOwn}

pub own_fault : (named : Option (List ℕ)) (t : Tape) → is_of named (program_text t.program) ≡ true → IsPlayable t → (why : DrawFault) → IsOwn why
    → IsDrawFaultOf named t why
own_fault named t own whole (Replay OtherProgram) is = absurd is
own_fault named t own whole (Replay Workers) is = absurd is
own_fault named t own whole (Replay (BadChoice k refusal)) is = absurd is
own_fault named t own whole (Replay Memory) is = tt
own_fault named t own whole TooLong is = (own, whole)
