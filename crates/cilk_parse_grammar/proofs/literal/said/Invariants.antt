use Rattle.std.proofs.Common.{◌≡◌, ◌++◌, drop, string_bytes, IsAscii, length}
use Rattle.cilk_tree_syntax.specs.lexeme.Lexeme.{body_says}
use Rattle.cilk_parse_grammar.proofs.literal.said.Given as goal

abbrev pub invariant-each : goal.invariant-each
invariant-each l = record { same : string_bytes l.said ++ body_says l.rest ≡ body_says (drop 1 l.fn.text); ascii : IsAscii l.rest }

abbrev pub decreases-each : goal.decreases-each
decreases-each l = length l.rest
