use Rattle.std.proofs.Common.{◌∙◌}
use Rattle.cilk_parse_grammar.proofs.Compared.{is_word}
use Rattle.cilk_parse_grammar.proofs.cursor.Cursor.is_keyword.Goals as goal

pub returns : goal.returns
returns c = c.eq.ensures ∙ rw c.kind.ensures (is_word c.args.wanted _)
