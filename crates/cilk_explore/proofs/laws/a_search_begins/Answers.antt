use Rattle.cilk_explore.proofs.Turns.{looks-first}
use Rattle.cilk_explore.proofs.laws.a_search_begins.Goals as goal

pub returns : goal.returns
returns c = looks-first
