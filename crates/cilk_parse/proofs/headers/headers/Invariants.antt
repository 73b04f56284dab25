use Rattle.std.proofs.Common.{◌≡◌, length}
use Rattle.cilk_parse_grammar.specs.ReadsAs.{onto}
use Rattle.cilk_parse_grammar.specs.Rule.{part, many}
use Rattle.cilk_parse_grammar.specs.Parts.{token, the_header}
use Rattle.cilk_parse_grammar.specs.Spelling.{nesting_limit}
use Rattle.cilk_parse.specs.Limits.{read_in}
use Rattle.cilk_parse.proofs.headers.headers.Given as goal

abbrev pub invariant-each : goal.invariant-each
invariant-each l =
    onto l.headers.items (read_in nesting_limit (many (part (token the_header))) l.cursor.pieces)
    ≡ read_in nesting_limit (many (part (token the_header))) l.fn.cursor.pieces

abbrev pub decreases-each : goal.decreases-each
decreases-each l = length l.cursor.pieces
