-- What the workers of a run share may be looked at by several threads.
use denote.Param.Send.{IsSend, sendable}
use Rattle.std.proofs.Crossing.{crosses}
use Rattle.cilk_machine.proofs.Crosses.{machine_send}
use Rattle.cilk_machine.proofs.sched_laws.choice.Choice.TheSendSync as choice
use Rattle.cilk_run_locked.specs.contracts.locked.Locked as locked

pub locked_send : IsSend locked.the_row
locked_send = search (machine_send, crosses, sendable, choice.the_send, choice.the_field_send) depth 60 fits 3000
