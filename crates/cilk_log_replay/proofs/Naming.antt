-- What is told of a schedule that names no other program.
use Rattle.std.proofs.Common.{◌≡◌, ℕ, true, List, Option, Result, Ok, Err, IfOk}
use Rattle.cilk_machine.specs.syntax.ProgramText.{program_text}
use Rattle.cilk_log.specs.Naming.{is_of}
use Rattle.cilk_log_replay.specs.Tape.{Tape}
use Rattle.cilk_log_replay.specs.ReplayFaults.{IsFaultOf, IsNamedFaultOf}
use Rattle.cilk_log_replay.specs.declared.replay_fault.ReplayFault.{ReplayFault}
use Rattle.cilk_log_replay.specs.declared.replay_fault.ReplayFault.TheVariants as fault

pub ok_always : {A E P : Type 0} (r : Result A E) → P → IfOk r (λ _. P)
ok_always (Ok a) p = p
ok_always (Err e) p = tt

pub named_fault : (named : Option (List ℕ)) (t : Tape) → is_of named (program_text t.program) ≡ true → (why : ReplayFault) → IsFaultOf t why
    → IsNamedFaultOf named t why
named_fault named t own fault.OtherProgram told = absurd told
named_fault named t own fault.Workers told = (own, told)
named_fault named t own (fault.BadChoice k refusal) told = (own, told)
named_fault named t own fault.Memory told = tt
