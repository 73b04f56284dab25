use Rattle.std.proofs.Common.{◌≡◌, length}
use Rattle.cilk_parse_grammar.specs.ReadsAs.{onto}
use Rattle.cilk_parse_grammar.specs.Forms.{expression, behind_commas}
use Rattle.cilk_parse.specs.Limits.{read_by}
use Rattle.cilk_parse.proofs.arguments.more_expressions.Given as goal

abbrev pub invariant-each : goal.invariant-each
invariant-each l =
    onto l.expressions.items (read_by (behind_commas expression) l.cursor.pieces)
    ≡ onto l.fn.expressions.items (read_by (behind_commas expression) l.fn.cursor.pieces)

abbrev pub decreases-each : goal.decreases-each
decreases-each l = length l.cursor.pieces
