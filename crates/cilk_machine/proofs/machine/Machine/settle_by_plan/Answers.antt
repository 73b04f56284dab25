use Rattle.cilk_sched.specs.Words.{event_of}
use Rattle.cilk_machine.proofs.Leading.{told-as}
use Rattle.cilk_machine.proofs.machine.Machine.settle_by_plan.Goals as goal

pub returns-in-Ok-step-clause-made : goal.returns-in-Ok-step-clause-made
returns-in-Ok-step-clause-made c = told-as _ _ _ _ (event_of c.in-Ok.event) c.in-Ok-step.ensures.made c.in-Ok.ensures.event
