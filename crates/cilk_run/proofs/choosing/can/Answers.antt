use Rattle.cilk_run.proofs.Among.{can-so, can-not}
use Rattle.cilk_run.proofs.choosing.can.Goals as goal

pub returns-in-None : goal.returns-in-None
returns-in-None c = can-so c.args.machine.now c.args.worker c.args.act c.in-None.ensures.free

pub returns-in-Some : goal.returns-in-Some
returns-in-Some c = can-not c.args.machine.now c.args.worker c.args.act c.in-Some.field-0 c.in-Some.ensures.memory c.in-Some.ensures.refused
