use Rattle.cilk_machine_agree.proofs.explore.StandingsAlike.{stand_at_the_same}
use Rattle.cilk_machine_agree.proofs.alike_laws.machines_of_the_same_parts_stand_at_the_same.Goals as goal

pub returns : goal.returns
returns c = stand_at_the_same
