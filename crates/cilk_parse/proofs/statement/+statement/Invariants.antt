use Rattle.std.proofs.Common.{◌≡◌, ◌+◌, ◌*◌, length, List}
use Rattle.cilk_parse_grammar.specs.syntax.Tree as tree
use Rattle.cilk_parse_grammar.specs.ReadsAs.{onto}
use Rattle.cilk_parse_grammar.specs.Forms.{joined}
use Rattle.cilk_parse_grammar.specs.Grammar.{all_labelled, locals, statements}
use Rattle.cilk_parse.specs.Limits.{read_in}
use Rattle.cilk_parse.proofs.statement.+statement.Given as goal

abbrev pub decreases-statement : goal.decreases-statement
decreases-statement l = 9 * l.depth

abbrev pub decreases-unbraced : goal.decreases-unbraced
decreases-unbraced l = 9 * l.depth

abbrev pub decreases-inlet : goal.decreases-inlet
decreases-inlet l = 9 * l.depth

abbrev pub decreases-local : goal.decreases-local
decreases-local l = 9 * l.depth + 1

abbrev pub decreases-statements : goal.decreases-statements
decreases-statements l = 9 * l.depth + 1

abbrev pub decreases-locals : goal.decreases-locals
decreases-locals l = 9 * l.depth + 2

abbrev pub decreases-block : goal.decreases-block
decreases-block l = 9 * l.depth + 3

abbrev pub decreases-body : goal.decreases-body
decreases-body l = 9 * l.depth + 4

abbrev pub decreases-conditional : goal.decreases-conditional
decreases-conditional l = 9 * l.depth + 5

abbrev pub decreases-looping : goal.decreases-looping
decreases-looping l = 9 * l.depth + 5

abbrev pub decreases-repeating : goal.decreases-repeating
decreases-repeating l = 9 * l.depth + 5

abbrev pub decreases-for_loop : goal.decreases-for_loop
decreases-for_loop l = 9 * l.depth + 5

abbrev pub decreases-labelled : goal.decreases-labelled
decreases-labelled l = 9 * l.depth + 1

abbrev pub decreases-all_labelled : goal.decreases-all_labelled
decreases-all_labelled l = 9 * l.depth + 2

abbrev pub decreases-cases : goal.decreases-cases
decreases-cases l = 9 * l.depth + 3

abbrev pub decreases-switching : goal.decreases-switching
decreases-switching l = 9 * l.depth + 5

abbrev pub decreases-compound : goal.decreases-compound
decreases-compound l = 9 * l.depth + 6

abbrev pub decreases-by_word : goal.decreases-by_word
decreases-by_word l = 9 * l.depth + 7

abbrev pub decreases-no_block : goal.decreases-no_block
decreases-no_block l = 9 * l.depth + 8

abbrev pub invariant-statements-each : goal.invariant-statements-each
invariant-statements-each l = onto l.stmts.items (read_in l.depth statements l.cursor.pieces) ≡ read_in l.depth statements l.fn.cursor.pieces

abbrev pub decreases-statements-each : goal.decreases-statements-each
decreases-statements-each l = length l.cursor.pieces

-- the declarations that were read, together
abbrev pub invariant-locals-each : goal.invariant-locals-each
invariant-locals-each l =
    (read : List (List tree.Local)) × (joined read ≡ l.locals.items)
    × (onto read (read_in l.depth locals l.cursor.pieces) ≡ read_in l.depth locals l.fn.cursor.pieces)

abbrev pub decreases-locals-each : goal.decreases-locals-each
decreases-locals-each l = length l.cursor.pieces

-- the statements and labels that were read, together
abbrev pub invariant-all_labelled-each : goal.invariant-all_labelled-each
invariant-all_labelled-each l =
    (read : List (List tree.Stmt)) × (joined read ≡ l.stmts.items)
    × (onto read (read_in l.depth all_labelled l.cursor.pieces) ≡ read_in l.depth all_labelled l.fn.cursor.pieces)

abbrev pub decreases-all_labelled-each : goal.decreases-all_labelled-each
decreases-all_labelled-each l = length l.cursor.pieces
