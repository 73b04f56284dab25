use Rattle.cilk_machine_undo.proofs.Printed.{plan-prints}
use Rattle.cilk_machine_undo.proofs.growth_laws.plans_print.Goals as goal

pub returns : goal.returns
returns c = plan-prints
