use Rattle.cilk_laws_model.proofs.Few.{no_more_leaves}
use Rattle.cilk_laws_model.proofs.laws.no_more_leaves_than_workers.Goals as goal

pub returns : goal.returns
returns c = no_more_leaves
