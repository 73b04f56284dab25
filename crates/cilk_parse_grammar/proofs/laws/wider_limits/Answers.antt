use Rattle.cilk_parse_grammar.proofs.Programs.{program_wider}
use Rattle.cilk_parse_grammar.proofs.laws.wider_limits.Goals as goal

pub returns : goal.returns
returns c = program_wider
