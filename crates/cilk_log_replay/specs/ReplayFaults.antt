-- Why choices cannot be made again.
use Rattle.std.specs.Prelude.{◌≡◌, ℕ, suc, ⊤, List, Option, Some, true, false}
use Rattle.cilk_machine.specs.syntax.Tree.{Program}
use Rattle.cilk_machine.specs.syntax.ProgramText.{program_text}
use Rattle.cilk_log.specs.Naming.{is_of}
use Rattle.cilk_machine.specs.model.Choice.{Choice, Refusal}
use Rattle.cilk_machine.specs.model.Run.{is_crew}
use Rattle.cilk_machine.specs.sched.declared.refusal.Refusal as code
use Rattle.cilk_machine.specs.sched.Words.{reason_of}
use Rattle.cilk_log_replay.specs.Tape.{Tape, IsBad}
use Rattle.cilk_log_replay.specs.declared.replay_fault.ReplayFault.{ReplayFault}
use Rattle.cilk_log_replay.specs.declared.replay_fault.ReplayFault.TheVariants.{OtherProgram, Workers, BadChoice, Memory}

-- the choice of number k, counted from 1, is the first that is not possible, and this is why
pub record IsFirst (t : Tape) (k : ℕ) (refusal : code.Refusal) : Type 0 where
  pub before : ℕ
  pub counted : k ≡ suc before
  pub reason : Refusal
  pub is : reason_of refusal ≡ Some reason
  pub bad : IsBad t before reason

-- memory may always run out
abbrev pub IsFaultOf : Tape → ReplayFault → Type 0
IsFaultOf t OtherProgram = ⊥
IsFaultOf t Workers = is_crew t.workers ≡ false
IsFaultOf t (BadChoice k refusal) = IsFirst t k refusal
IsFaultOf t Memory = ⊤

-- whatever the choices are
abbrev pub IsFaultOfAll : Program → ℕ → ReplayFault → Type 0
IsFaultOfAll program workers why = (choices : List Choice) → IsFaultOf (record { program = program; workers = workers; choices = choices }) why

-- of a schedule which may name its program: it is of another, or else that holds
abbrev pub IsNamedFaultOf : Option (List ℕ) → Tape → ReplayFault → Type 0
IsNamedFaultOf named t OtherProgram = is_of named (program_text t.program) ≡ false
IsNamedFaultOf named t Workers = (is_of named (program_text t.program) ≡ true) × (is_crew t.workers ≡ false)
IsNamedFaultOf named t (BadChoice k refusal) = (is_of named (program_text t.program) ≡ true) × IsFirst t k refusal
IsNamedFaultOf named t Memory = ⊤
