use Rattle.cilk_lex.proofs.Unique.{never_both}
use Rattle.cilk_lex.proofs.laws.never_both.Goals as goal

pub returns : goal.returns
returns c = λ fresh at text ps f l h. never_both l h
