use Rattle.cilk_explore.proofs.Idles.{idle-linked}
use Rattle.cilk_explore.proofs.laws.idle_workers_are_linked_alike.Goals as goal

pub returns : goal.returns
returns c = idle-linked
