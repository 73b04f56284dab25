use Rattle.cilk_lex.proofs.Unique.{one_reading}
use Rattle.cilk_lex.proofs.laws.one_reading.Goals as goal

pub returns : goal.returns
returns c = λ fresh at text ps qs l m. one_reading l m
