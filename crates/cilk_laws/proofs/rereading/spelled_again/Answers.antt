use Rattle.cilk_laws.proofs.ReadPrograms.{program_reread}
use Rattle.cilk_laws.proofs.rereading.spelled_again.Goals as goal

pub returns : goal.returns
returns c = program_reread
