use Rattle.std.proofs.Common.{◌∙◌}
use Rattle.cilk_parse_grammar.proofs.Compared.{second_mark}
use Rattle.cilk_parse_grammar.proofs.cursor.Cursor.is_mark_second.Goals as goal

pub returns-in-len2-up : goal.returns-in-len2-up
returns-in-len2-up c =
    rw (← c.self.view_is)
    (c.eq.ensures ∙ second_mark c.args.wanted c.self.inside.text.now c.self.inside.tokens.now _ c.in-len2-up.len_at_least)
