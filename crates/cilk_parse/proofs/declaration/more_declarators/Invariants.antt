use Rattle.std.proofs.Common.{◌≡◌, length}
use Rattle.cilk_parse_grammar.specs.ReadsAs.{onto}
use Rattle.cilk_parse_grammar.specs.Forms.{behind_commas}
use Rattle.cilk_parse_grammar.specs.Grammar.{declarator}
use Rattle.cilk_parse.specs.Limits.{read_by}
use Rattle.cilk_parse.proofs.declaration.more_declarators.Given as goal

abbrev pub invariant-each : goal.invariant-each
invariant-each l =
    onto l.declarators.items (read_by (behind_commas declarator) l.cursor.pieces)
    ≡ onto l.fn.declarators.items (read_by (behind_commas declarator) l.fn.cursor.pieces)

abbrev pub decreases-each : goal.decreases-each
decreases-each l = length l.cursor.pieces
