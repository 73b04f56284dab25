use Rattle.std.proofs.Common.{◌≡◌, length}
use Rattle.cilk_parse_grammar.specs.ReadsAs.{onto}
use Rattle.cilk_parse_grammar.specs.Forms.{behind_commas}
use Rattle.cilk_parse_grammar.specs.Spelling.{nesting_limit}
use Rattle.cilk_parse_grammar.specs.Grammar.{name}
use Rattle.cilk_parse.specs.Limits.{read_in}
use Rattle.cilk_parse.proofs.lock.more_names.Given as goal

abbrev pub invariant-each : goal.invariant-each
invariant-each l =
    onto l.names.items (read_in nesting_limit (behind_commas name) l.cursor.pieces)
    ≡ onto l.fn.names.items (read_in nesting_limit (behind_commas name) l.fn.cursor.pieces)

abbrev pub decreases-each : goal.decreases-each
decreases-each l = length l.cursor.pieces
