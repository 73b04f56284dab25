use Rattle.cilk_machine_agree.specs.explore.Same.{Same}
use Rattle.cilk_machine_agree.proofs.explore.Taken.{same_kept}
use Rattle.cilk_machine_agree.proofs.explore.Searches.{known, each_is_known_by}
use Rattle.cilk_machine_agree.proofs.search_laws.each_standing_is_known.Goals as goal

pub returns : goal.returns
returns c = record { same = each_is_known_by Same same_kept; names = known }
