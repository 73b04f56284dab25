use Rattle.cilk_machine_undo.proofs.Plans.{plan-back}
use Rattle.cilk_machine_undo.proofs.laws.plans_are_undone.Goals as goal

pub returns : goal.returns
returns c = plan-back
