-- Why an editor is answered no more.
use Rattle.std.specs.Prelude.{⊤, ◌≡◌, ℕ, List, [], Option}
use Rattle.cilk_program_runs.specs.commands.declared.status.Status.{Status}
use Rattle.cilk_program_runs.specs.commands.declared.failure.Failure.TheVariants as failure
use Rattle.cilk_dap.specs.messages.declared.fault.MessageFault.{MessageFault}
use Rattle.cilk_dap.specs.messages.declared.fault.MessageFault.TheVariants as ending
use Rattle.cilk_program_runs.specs.GivingUp.{TellsWith}
use Rattle.cilk_program_runs.specs.Telling.{status_of}
use Rattle.cilk_program_runs.specs.tapes.declared.failure.RecordFailure.{RecordFailure}
use Rattle.cilk_program_runs.specs.tapes.declared.failure.RecordFailure.TheVariants as why

-- what is told of it
abbrev pub exchange_ended : MessageFault → RecordFailure
exchange_ended ending.Read = why.Commands
exchange_ended ending.Write = why.Answers
exchange_ended ending.Memory = why.Program failure.Memory

-- what may keep an editor from its answers: what is wrong with the texts that it names is one of these
abbrev pub IsOfServing : RecordFailure → Type 0
IsOfServing (why.Program found) = ⊤
IsOfServing why.Commands = ⊤
IsOfServing why.Answers = ⊤
IsOfServing found = ⊥

-- what is told in place of them: the line has the name of the task's text, and nothing stands behind it
pub record GivesUpServing (name : List ℕ) (ended : Status) (old new : Option (List ℕ)) : Type 0 where
  pub why : RecordFailure
  pub status_is : ended ≡ status_of why
  pub of_serving : IsOfServing why
  pub told : TellsWith name [] why [] old new
