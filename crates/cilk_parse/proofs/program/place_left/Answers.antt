use Rattle.std.proofs.Common.{arith}
use Rattle.cilk_parse.proofs.FaultPlaces.{first_left}
use Rattle.cilk_parse.proofs.program.place_left.Goals as goal

pub returns-in-len1-up : goal.returns-in-len1-up
returns-in-len1-up c = first_left c.args.text.now _ c.args.left c.args.tokens.now _ c.requires.in_tokens (omega (arith, c.in-len1-up.len_at_least))
