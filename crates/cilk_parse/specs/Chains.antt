-- The last alternatives of a statement that is no block.
use Rattle.cilk_parse_grammar.specs.lexeme.declared.keyword.Keyword.TheVariants as key
use Rattle.cilk_parse_grammar.specs.lexeme.declared.mark.Mark.TheVariants.{Semicolon}
use Rattle.cilk_parse_grammar.specs.syntax.Tree as tree
use Rattle.cilk_parse_grammar.specs.Rule.{Rule, done, either}
use Rattle.cilk_parse_grammar.specs.Parts.{Means}
use Rattle.cilk_parse_grammar.specs.Forms.{mark}
use Rattle.cilk_parse_grammar.specs.Grammar.{alone, returning, conditional, looping, repeating, for_loop, switching}

abbrev pub compounds : Rule Means tree.Stmt
compounds = either conditional (either looping (either repeating (either for_loop switching)))

abbrev pub by_words : Rule Means tree.Stmt
by_words =
    either (mark Semicolon (done tree.null)) (
    either (alone key.Sync (λ at. tree.sync_at at)) (
    either (alone key.Abort (λ at. tree.abort_at at)) (
    either (alone key.Break (λ at. tree.break_at at)) (
    either (alone key.Continue (λ at. tree.continue_at at)) (
    either returning compounds)))))
