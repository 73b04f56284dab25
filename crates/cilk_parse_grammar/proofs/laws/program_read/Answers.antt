use Rattle.cilk_parse_grammar.proofs.Programs.{program_takes, program_again}
use Rattle.cilk_parse_grammar.proofs.laws.program_read.Goals as goal

pub returns-clause-sound : goal.returns-clause-sound
returns-clause-sound c = program_takes

pub returns-clause-complete : goal.returns-clause-complete
returns-clause-complete c = program_again
