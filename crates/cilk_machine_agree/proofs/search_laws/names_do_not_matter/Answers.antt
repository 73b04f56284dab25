use Rattle.cilk_machine_agree.proofs.explore.Renaming.{names_do_not_matter}
use Rattle.cilk_machine_agree.proofs.search_laws.names_do_not_matter.Goals as goal

pub returns : goal.returns
returns c = names_do_not_matter
