-- Machines may be handed from thread to thread.
use denote.Param.Send.{IsSend, sendable}
use Rattle.std.proofs.Crossing.{crosses}
use Rattle.cilk_machine_undo.proofs.frame_laws.id.Id.TheSendSync as id
use Rattle.cilk_machine_undo.proofs.plans_laws.parts.Parts.TheSendSync as parts
use Rattle.cilk_sched.proofs.outcome.Outcome.TheSendSync as outcome
use Rattle.cilk_machine_step.proofs.load_laws.Crosses.{loaded_send}
use Rattle.cilk_machine_undo.proofs.undo.Undo.TheSendSync as undo
use Rattle.cilk_machine.specs.contracts.machine.Machine as machine

pub machine_send : IsSend machine.the_row
machine_send =
    search (loaded_send, crosses, sendable, id.the_send, parts.the_field_send, outcome.the_field_send, undo.the_field_send) depth 60 fits 3000
