use Rattle.cilk_explore.proofs.Growing.{halted}
use Rattle.cilk_explore.proofs.laws.a_search_is_halted.Goals as goal

pub returns : goal.returns
returns c = halted
