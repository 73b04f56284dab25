use Rattle.cilk_laws.proofs.Once.{delivered_once}
use Rattle.cilk_laws.proofs.children.delivered_once.Goals as goal

pub returns : goal.returns
returns c = delivered_once
