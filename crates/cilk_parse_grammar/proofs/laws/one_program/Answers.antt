use Rattle.cilk_parse_grammar.proofs.Programs.{program_same}
use Rattle.cilk_parse_grammar.proofs.laws.one_program.Goals as goal

pub returns : goal.returns
returns c = program_same
