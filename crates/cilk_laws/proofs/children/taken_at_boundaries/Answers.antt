use Rattle.cilk_laws.proofs.Taken.{taken_at_boundaries}
use Rattle.cilk_laws.proofs.children.taken_at_boundaries.Goals as goal

pub returns : goal.returns
returns c = taken_at_boundaries
