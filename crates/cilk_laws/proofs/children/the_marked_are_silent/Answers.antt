use Rattle.cilk_laws.proofs.Silent.{the_marked_are_silent}
use Rattle.cilk_laws.proofs.children.the_marked_are_silent.Goals as goal

pub returns : goal.returns
returns c = the_marked_are_silent
