use Rattle.cilk_laws.proofs.Waiting.{the_marked_take_nothing}
use Rattle.cilk_laws.proofs.children.the_marked_take_nothing.Goals as goal

pub returns : goal.returns
returns c = the_marked_take_nothing
