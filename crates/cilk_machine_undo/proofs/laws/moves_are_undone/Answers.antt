use Rattle.cilk_machine_undo.proofs.Plans.{pops-back, steals-back}
use Rattle.cilk_machine_undo.proofs.Able.{pops-can, steals-can}
use Rattle.cilk_machine_undo.proofs.laws.moves_are_undone.Goals as goal

pub returns : goal.returns
returns c = record { pops = pops-back; steals = steals-back; can_pop = pops-can; can_steal = steals-can }
