use Rattle.cilk_machine_undo.proofs.Growth.{plan-grows}
use Rattle.cilk_machine_undo.proofs.growth_laws.plans_grow.Goals as goal

pub returns : goal.returns
returns c = plan-grows
