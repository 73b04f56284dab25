use Rattle.cilk_laws.proofs.GoodTrees.{program_can_be_written}
use Rattle.cilk_laws.proofs.rereading.can_be_written.Goals as goal

pub returns : goal.returns
returns c = program_can_be_written
