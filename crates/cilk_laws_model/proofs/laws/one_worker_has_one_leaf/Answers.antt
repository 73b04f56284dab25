use Rattle.cilk_laws_model.proofs.Crew.{one_worker_has_one_leaf}
use Rattle.cilk_laws_model.proofs.laws.one_worker_has_one_leaf.Goals as goal

pub returns : goal.returns
returns c = one_worker_has_one_leaf
