use Rattle.cilk_laws.proofs.Lived.{the_made_have_lived}
use Rattle.cilk_laws.proofs.children.the_made_have_lived.Goals as goal

pub returns : goal.returns
returns c = the_made_have_lived
