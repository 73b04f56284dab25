use Rattle.cilk_laws_model.proofs.Stuck.{stuck_exactly}
use Rattle.cilk_laws_model.proofs.laws.stuck_where_no_choice_is_possible.Goals as goal

pub returns : goal.returns
returns c = stuck_exactly
