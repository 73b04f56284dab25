use Rattle.cilk_laws_model.proofs.Finished.{finished_is_empty}
use Rattle.cilk_laws_model.proofs.laws.the_end_is_empty.Goals as goal

pub returns : goal.returns
returns c = finished_is_empty
