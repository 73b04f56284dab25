use Rattle.cilk_laws.proofs.GoodTrees.{printed}
use Rattle.cilk_laws.proofs.rereading.printed_again.Goals as goal

pub returns : goal.returns
returns c = printed
