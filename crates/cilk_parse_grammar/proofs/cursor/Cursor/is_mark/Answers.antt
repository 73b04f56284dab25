use Rattle.std.proofs.Common.{◌∙◌}
use Rattle.cilk_parse_grammar.proofs.Compared.{is_mark}
use Rattle.cilk_parse_grammar.proofs.cursor.Cursor.is_mark.Goals as goal

pub returns : goal.returns
returns c = c.eq.ensures ∙ rw c.kind.ensures (is_mark c.args.wanted _)
