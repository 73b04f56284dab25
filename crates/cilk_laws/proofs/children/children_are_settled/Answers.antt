use Rattle.cilk_laws.proofs.Settled.{children_are_settled}
use Rattle.cilk_laws.proofs.children.children_are_settled.Goals as goal

pub returns : goal.returns
returns c = children_are_settled
