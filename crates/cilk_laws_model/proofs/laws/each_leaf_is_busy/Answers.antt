use Rattle.cilk_laws_model.proofs.Leaves.{each_leaf_is_busy}
use Rattle.cilk_laws_model.proofs.laws.each_leaf_is_busy.Goals as goal

pub returns : goal.returns
returns c = each_leaf_is_busy
