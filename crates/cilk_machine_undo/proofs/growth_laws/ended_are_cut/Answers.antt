use Rattle.cilk_machine_undo.proofs.Cut.{own-cut, cuts-go-on, last-tells}
use Rattle.cilk_machine_undo.proofs.growth_laws.ended_are_cut.Goals as goal

pub returns : goal.returns
returns c = record { own = own-cut; on = cuts-go-on; last = last-tells }
