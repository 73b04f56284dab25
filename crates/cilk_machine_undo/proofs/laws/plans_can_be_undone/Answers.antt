use Rattle.cilk_machine_undo.proofs.Able.{plan-can}
use Rattle.cilk_machine_undo.proofs.laws.plans_can_be_undone.Goals as goal

pub returns : goal.returns
returns c = plan-can
