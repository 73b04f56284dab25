use Rattle.cilk_laws.proofs.Reached.{stuck_on_locks}
use Rattle.cilk_laws.proofs.heads.stuck_on_locks_alone.Goals as goal

pub returns : goal.returns
returns c = stuck_on_locks
