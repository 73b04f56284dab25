use Rattle.cilk_laws.proofs.Once.{the_made_are_spawned_once}
use Rattle.cilk_laws.proofs.children.the_made_are_spawned_once.Goals as goal

pub returns : goal.returns
returns c = the_made_are_spawned_once
