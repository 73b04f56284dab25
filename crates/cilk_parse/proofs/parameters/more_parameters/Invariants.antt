use Rattle.std.proofs.Common.{◌≡◌, length}
use Rattle.cilk_parse_grammar.specs.ReadsAs.{onto}
use Rattle.cilk_parse_grammar.specs.Forms.{behind_commas, word}
use Rattle.cilk_parse_grammar.specs.lexeme.declared.keyword.Keyword.TheVariants.{Int}
use Rattle.cilk_parse_grammar.specs.Grammar.{name}
use Rattle.cilk_parse.specs.Limits.{read_by}
use Rattle.cilk_parse.proofs.parameters.more_parameters.Given as goal

abbrev pub invariant-each : goal.invariant-each
invariant-each l =
    onto l.names.items (read_by (behind_commas (word Int name)) l.cursor.pieces)
    ≡ onto l.fn.names.items (read_by (behind_commas (word Int name)) l.fn.cursor.pieces)

abbrev pub decreases-each : goal.decreases-each
decreases-each l = length l.cursor.pieces
