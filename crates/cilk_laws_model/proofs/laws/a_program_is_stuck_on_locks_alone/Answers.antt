use Rattle.cilk_laws_model.proofs.Waiting.{stuck_on_locks}
use Rattle.cilk_laws_model.proofs.laws.a_program_is_stuck_on_locks_alone.Goals as goal

pub returns : goal.returns
returns c = stuck_on_locks
