use Rattle.cilk_laws.proofs.Programs.{program_made}
use Rattle.cilk_laws.proofs.writing.spelled.Goals as goal

pub returns : goal.returns
returns c = λ at p h. (program_made p h).from at
