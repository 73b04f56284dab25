use Rattle.cilk_machine_agree.proofs.explore.ButNames.{names_kept}
use Rattle.cilk_machine_agree.proofs.search_laws.sameness_but_names_is_kept.Goals as goal

pub returns : goal.returns
returns c = names_kept
