use Rattle.cilk_laws.proofs.Marks.{abort_keeps_deliveries}
use Rattle.cilk_laws.proofs.children.abort_keeps_deliveries.Goals as goal

pub returns : goal.returns
returns c = abort_keeps_deliveries
