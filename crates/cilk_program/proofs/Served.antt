-- Why an editor is answered no more.
use Rattle.std.specs.Prelude.{◌≢◌}
use Rattle.cilk_program_runs.specs.commands.declared.status.Status.TheVariants as status
use Rattle.cilk_dap.specs.messages.declared.fault.MessageFault.{MessageFault}
use Rattle.cilk_dap.specs.messages.declared.fault.MessageFault.TheVariants as ending
use Rattle.cilk_program.specs.Serving.{IsOfServing, exchange_ended}
use Rattle.cilk_program_runs.specs.Telling.{status_of}

pub of_serving : (fault : MessageFault) → IsOfServing (exchange_ended fault)
of_serving ending.Read = tt
of_serving ending.Write = tt
of_serving ending.Memory = tt

pub not_refused : (fault : MessageFault) → status_of (exchange_ended fault) ≢ status.Refused
not_refused ending.Read bad = cc
not_refused ending.Write bad = cc
not_refused ending.Memory bad = cc
