use Rattle.std.proofs.Common.{◌≡◌, length}
use Rattle.cilk_parse_grammar.specs.ReadsAs.{onto}
use Rattle.cilk_parse_grammar.specs.Forms.{behind_commas, word, optional}
use Rattle.cilk_lex.specs.lexeme.declared.keyword.Keyword.TheVariants.{Int}
use Rattle.cilk_parse_grammar.specs.Grammar.{name}
use Rattle.cilk_parse_grammar.specs.Spelling.{nesting_limit}
use Rattle.cilk_parse.specs.Limits.{read_in}
use Rattle.cilk_parse.proofs.parameter_list.more_parameters.Given as goal

abbrev pub invariant-each : goal.invariant-each
invariant-each l =
    onto l.names.items (read_in nesting_limit (behind_commas (word Int (optional name))) l.cursor.pieces)
    ≡ onto l.fn.names.items (read_in nesting_limit (behind_commas (word Int (optional name))) l.fn.cursor.pieces)

abbrev pub decreases-each : goal.decreases-each
decreases-each l = length l.cursor.pieces
