use Rattle.std.proofs.Common.{string_bytes}
use Rattle.cilk_commands.proofs.Explained.{sentence_alone}
use Rattle.cilk_commands.proofs.explaining.explained.Goals as goal

pub returns-in_default : goal.returns-in_default
returns-in_default c = sentence_alone string_bytes _ _ _ c.in_default.ensures.cases.0 c.said.ensures
