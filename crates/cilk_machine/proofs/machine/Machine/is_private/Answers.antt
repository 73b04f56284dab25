use Rattle.cilk_machine.proofs.Unseen.{refused-not}
use Rattle.cilk_machine.proofs.machine.Machine.is_private.Goals as goal

pub returns-in-Some : goal.returns-in-Some
returns-in-Some c = refused-not c.args.self.now c.args.worker c.in-Some.field-0 c.in-Some.ensures.memory c.in-Some.ensures.refused
