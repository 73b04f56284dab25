use Rattle.cilk_machine_agree.proofs.explore.Standings.{sameness_is_kept}
use Rattle.cilk_machine_agree.proofs.search_laws.sameness_is_kept.Goals as goal

pub returns : goal.returns
returns c = sameness_is_kept
