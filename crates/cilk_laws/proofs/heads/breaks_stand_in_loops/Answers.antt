use Rattle.cilk_laws.proofs.LoopBodies.{breaks_stand_in_loops}
use Rattle.cilk_laws.proofs.heads.breaks_stand_in_loops.Goals as goal

pub returns : goal.returns
returns c = breaks_stand_in_loops
