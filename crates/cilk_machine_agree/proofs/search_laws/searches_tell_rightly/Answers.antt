use Rattle.cilk_machine_agree.specs.explore.Same.{Same}
use Rattle.cilk_machine_agree.proofs.explore.Taken.{same_kept}
use Rattle.cilk_machine_agree.proofs.explore.Searches.{searches_tell_rightly, searches_tell_rightly_by}
use Rattle.cilk_machine_agree.proofs.search_laws.searches_tell_rightly.Goals as goal

pub returns : goal.returns
returns c = record { same = searches_tell_rightly_by Same same_kept; names = searches_tell_rightly }
