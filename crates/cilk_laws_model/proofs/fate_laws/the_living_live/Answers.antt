use Rattle.cilk_laws_model.proofs.Fates.{the_living_live}
use Rattle.cilk_laws_model.proofs.fate_laws.the_living_live.Goals as goal

pub returns : goal.returns
returns c = the_living_live
