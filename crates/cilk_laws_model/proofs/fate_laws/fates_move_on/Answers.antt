use Rattle.cilk_laws_model.proofs.Fates.{fates_move_on}
use Rattle.cilk_laws_model.proofs.fate_laws.fates_move_on.Goals as goal

pub returns : goal.returns
returns c = fates_move_on
