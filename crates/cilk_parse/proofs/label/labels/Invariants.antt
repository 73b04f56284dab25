use Rattle.std.proofs.Common.{◌≡◌, length}
use Rattle.cilk_parse_grammar.specs.ReadsAs.{onto}
use Rattle.cilk_parse_grammar.specs.Grammar.{labels}
use Rattle.cilk_parse.specs.Limits.{read_by}
use Rattle.cilk_parse.proofs.label.labels.Given as goal

abbrev pub invariant-each : goal.invariant-each
invariant-each l = onto l.stmts.items (read_by labels l.cursor.pieces) ≡ read_by labels l.fn.cursor.pieces

abbrev pub decreases-each : goal.decreases-each
decreases-each l = length l.cursor.pieces
