use Rattle.cilk_laws_model.proofs.Locks.{each_holder_lives}
use Rattle.cilk_laws_model.proofs.laws.each_holder_of_a_lock_lives.Goals as goal

pub returns : goal.returns
returns c = each_holder_lives
