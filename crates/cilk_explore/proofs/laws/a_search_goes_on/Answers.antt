use Rattle.cilk_explore.proofs.Growing.{looked-on}
use Rattle.cilk_explore.proofs.laws.a_search_goes_on.Goals as goal

pub returns : goal.returns
returns c = looked-on
