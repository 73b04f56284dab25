-- What is told of a schedule that names no other program.
use Rattle.std.proofs.Common.{◌≡◌, ℕ, true, List, Option, Result, Ok, Err, IfErr}
use Rattle.cilk_debug_console.specs.syntax.ProgramText.{program_text}
use Rattle.cilk_debug_console.specs.log.Naming.{is_of}
use Rattle.cilk_log_replay.specs.Tape.{Tape}
use Rattle.cilk_debug.specs.Faults.{IsNamedDebugFaultOf, debug_fault}
use Rattle.cilk_log_replay.specs.ReplayFaults.{IsFaultOf, IsNamedFaultOf}
use Rattle.cilk_log_replay.specs.declared.replay_fault.ReplayFault.{ReplayFault}
use Rattle.cilk_log_replay.specs.declared.replay_fault.ReplayFault.TheVariants as fault
use Rattle.cilk_log_replay.proofs.Naming.{named_fault}
use Rattle.cilk_log_replay.specs.declared.unplayable.Unplayable.{Unplayable}

pub named_debug_fault : (named : Option (List ℕ)) (t : Tape) (why : ReplayFault) → IsNamedFaultOf named t why → IsNamedDebugFaultOf named t (debug_fault why)
named_debug_fault named t fault.OtherProgram told = told
named_debug_fault named t fault.Workers told = told
named_debug_fault named t (fault.BadChoice k refusal) told = told
named_debug_fault named t fault.Memory told = tt

module _ (named : Option (List ℕ)) (t : Tape) (own : is_of named (program_text t.program) ≡ true) where
  pub unplayable_told : {A : Type 0} (r : Result A Unplayable) → IfErr r (λ it. IsFaultOf t it.fault) → IfErr r (λ it. IsNamedFaultOf named t it.fault)
  unplayable_told (Ok a) told = tt
  unplayable_told (Err it) told = named_fault named t own it.fault told
