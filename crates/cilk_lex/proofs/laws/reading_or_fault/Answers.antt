use Rattle.cilk_lex.proofs.Unique.{reading_or_fault}
use Rattle.cilk_lex.proofs.laws.reading_or_fault.Goals as goal

pub returns : goal.returns
returns c = λ fresh at text. reading_or_fault fresh at text
