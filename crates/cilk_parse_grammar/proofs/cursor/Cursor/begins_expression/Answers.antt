use Rattle.std.proofs.Common.{sym, ◌∙◌}
use Rattle.cilk_parse_grammar.proofs.Opens.{begins_kind, begins_nothing}
use Rattle.cilk_parse_grammar.proofs.cursor.Cursor.begins_expression.Goals as goal

pub returns-in-Some : goal.returns-in-Some
returns-in-Some c = c.begins_by.ensures ∙ begins_kind c.args.self.now.pieces c.in-Some.kind (sym c.kind.ensures ∙ c.in-Some.is)

pub returns-in-None : goal.returns-in-None
returns-in-None c = begins_nothing c.args.self.now.pieces (sym c.kind.ensures ∙ c.in-None.is)
