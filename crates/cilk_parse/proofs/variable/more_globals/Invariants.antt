use Rattle.std.proofs.Common.{◌≡◌, length}
use Rattle.cilk_parse_grammar.specs.ReadsAs.{onto}
use Rattle.cilk_parse_grammar.specs.Forms.{behind_commas}
use Rattle.cilk_parse_grammar.specs.Spelling.{nesting_limit}
use Rattle.cilk_parse_grammar.specs.Grammar.{global}
use Rattle.cilk_parse.specs.Limits.{read_in}
use Rattle.cilk_parse.proofs.variable.more_globals.Given as goal

abbrev pub invariant-each : goal.invariant-each
invariant-each l =
    onto l.globals.items (read_in nesting_limit (behind_commas global) l.cursor.pieces)
    ≡ onto l.fn.globals.items (read_in nesting_limit (behind_commas global) l.fn.cursor.pieces)

abbrev pub decreases-each : goal.decreases-each
decreases-each l = length l.cursor.pieces
