use Rattle.std.proofs.Common.{◌≡◌, List, length}
use Rattle.cilk_parse_grammar.specs.syntax.Tree as tree
use Rattle.cilk_parse_grammar.specs.ReadsAs.{onto}
use Rattle.cilk_parse_grammar.specs.Forms.{joined}
use Rattle.cilk_parse_grammar.specs.Grammar.{declarations}
use Rattle.cilk_parse.specs.Limits.{read_by}
use Rattle.cilk_parse.proofs.declaration.declarations.Given as goal

-- the declarations that were read, together
abbrev pub invariant-each : goal.invariant-each
invariant-each l =
    (read : List (List tree.Local)) × (joined read ≡ l.locals.items)
    × (onto read (read_by declarations l.cursor.pieces) ≡ read_by declarations l.fn.cursor.pieces)

abbrev pub decreases-each : goal.decreases-each
decreases-each l = length l.cursor.pieces
