use Rattle.cilk_machine_agree.specs.explore.Same.{Same}
use Rattle.cilk_machine_agree.proofs.explore.Taken.{same_kept}
use Rattle.cilk_machine_agree.proofs.explore.Unending.{the_endless_are_unmarked, the_endless_are_unmarked_by}
use Rattle.cilk_machine_agree.proofs.search_laws.the_endless_are_unmarked.Goals as goal

pub returns : goal.returns
returns c = record { same = the_endless_are_unmarked_by Same same_kept; names = the_endless_are_unmarked }
