use Rattle.cilk_machine.proofs.Checkpoints.{tells-itself, goes-on-telling}
use Rattle.cilk_machine.proofs.laws.later_machines_tell.Goals as goal

pub returns : goal.returns
returns c = record { own = tells-itself; on = goes-on-telling }
