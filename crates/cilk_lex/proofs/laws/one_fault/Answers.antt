use Rattle.cilk_lex.proofs.Unique.{one_fault}
use Rattle.cilk_lex.proofs.laws.one_fault.Goals as goal

pub returns : goal.returns
returns c = λ fresh at text f g h k. one_fault h k
