use Rattle.cilk_sched.specs.Words.{event_of}
use Rattle.cilk_machine.proofs.Leading.{told-as}
use Rattle.cilk_machine.proofs.machine.Machine.settle_lightly.Goals as goal

pub returns-clause-made : goal.returns-clause-made
returns-clause-made c =
    told-as _ _ _ _ (event_of c.in-Ok.event) c.in-Ok-step_lightly.ensures.made c.in-Ok.ensures.event
