use Rattle.cilk_machine_agree.proofs.Waits.{pop, steal}
use Rattle.cilk_machine_agree.proofs.laws.moves_keep_agreement.Goals as goal

pub returns : goal.returns
returns c = record { pops = pop; steals = steal }
