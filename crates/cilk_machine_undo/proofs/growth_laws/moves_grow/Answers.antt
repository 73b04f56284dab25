use Rattle.cilk_machine_undo.proofs.Growth.{pops-grow, steals-grow}
use Rattle.cilk_machine_undo.proofs.growth_laws.moves_grow.Goals as goal

pub returns : goal.returns
returns c = record { pops = pops-grow; steals = steals-grow }
