use Rattle.cilk_machine_agree.proofs.explore.ByNames.{stand_so}
use Rattle.cilk_machine_agree.proofs.alike_laws.machines_alike_but_for_names_stand_so.Goals as goal

pub returns : goal.returns
returns c = stand_so
