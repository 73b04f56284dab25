use Rattle.std.proofs.Common.{◌≡◌, ◌<◌, length, ◌+◌, ◌*◌}
use Rattle.cilk_parse_grammar.specs.Reading.{expr_of, more_of}
use Rattle.cilk_parse_grammar.proofs.reading.+expr.Given as goal

abbrev pub decreases-expr : goal.decreases-expr
decreases-expr l = 3 * length l.cursor.now.pieces + 2

abbrev pub decreases-operand : goal.decreases-operand
decreases-operand l = 3 * length l.cursor.now.pieces + 1

abbrev pub decreases-parenthesised : goal.decreases-parenthesised
decreases-parenthesised l = 3 * length l.cursor.now.pieces

abbrev pub decreases-prefixed : goal.decreases-prefixed
decreases-prefixed l = 3 * length l.cursor.now.pieces

abbrev pub invariant-expr-each : goal.invariant-expr-each
invariant-expr-each l = record {
  same : more_of 200 l.depth l.lowest l.cursor.operators l.left l.cursor.pieces ≡ expr_of 200 l.depth l.lowest l.fn.cursor.operators l.fn.cursor.pieces;
  shorter : length l.cursor.pieces < length l.fn.cursor.pieces;
}

abbrev pub decreases-expr-each : goal.decreases-expr-each
decreases-expr-each l = length l.cursor.pieces

abbrev pub decreases-choice : goal.decreases-choice
decreases-choice l = 3 * length l.cursor.now.pieces + 3

abbrev pub decreases-named : goal.decreases-named
decreases-named l = 3 * length l.cursor.now.pieces

abbrev pub decreases-subscripted : goal.decreases-subscripted
decreases-subscripted l = 3 * length l.cursor.now.pieces
