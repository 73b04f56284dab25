use Rattle.cilk_machine_agree.proofs.explore.Over.{over_exactly}
use Rattle.cilk_machine_agree.proofs.search_laws.over_where_no_choice_is_possible.Goals as goal

pub returns : goal.returns
returns c = over_exactly
