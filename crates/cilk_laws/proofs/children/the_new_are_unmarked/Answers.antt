use Rattle.cilk_laws.proofs.Silent.{the_new_are_unmarked}
use Rattle.cilk_laws.proofs.children.the_new_are_unmarked.Goals as goal

pub returns : goal.returns
returns c = the_new_are_unmarked
