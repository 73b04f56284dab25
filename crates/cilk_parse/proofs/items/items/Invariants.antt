use Rattle.std.proofs.Common.{◌≡◌, length, List}
use Rattle.cilk_parse_grammar.specs.syntax.Tree as tree
use Rattle.cilk_parse_grammar.specs.ReadsAs.{onto}
use Rattle.cilk_parse_grammar.specs.Rule.{many}
use Rattle.cilk_parse_grammar.specs.Forms.{joined}
use Rattle.cilk_parse_grammar.specs.Grammar.{item}
use Rattle.cilk_parse_grammar.specs.Spelling.{nesting_limit}
use Rattle.cilk_parse.specs.Limits.{read_in}
use Rattle.cilk_parse.proofs.items.items.Given as goal

-- the items that were read, together
abbrev pub invariant-each : goal.invariant-each
invariant-each l =
    (read : List (List tree.Item)) × (joined read ≡ l.items.items)
    × (onto read (read_in nesting_limit (many item) l.cursor.pieces) ≡ read_in nesting_limit (many item) l.fn.cursor.pieces)

abbrev pub decreases-each : goal.decreases-each
decreases-each l = length l.cursor.pieces
