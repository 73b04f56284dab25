-- The kinds of tokens with which an expression begins.
use Rattle.std.specs.Prelude.{Bool, true, false, is_some}
use Rattle.cilk_tree_syntax.specs.lexeme.declared.keyword.Keyword.TheVariants as words
use Rattle.cilk_tree_syntax.specs.lexeme.declared.mark.Mark.TheVariants as marks
use Rattle.cilk_tree_syntax.specs.lexeme.declared.token.TokenKind.{TokenKind}
use Rattle.cilk_tree_syntax.specs.lexeme.declared.token.TokenKind.TheVariants as kind
use Rattle.cilk_parse_grammar.specs.Classes.{a_mark}
use Rattle.cilk_parse_grammar.specs.Operators.{sign_of}

abbrev pub begins_by : TokenKind → Bool
begins_by (kind.Number n) = true
begins_by kind.Name = true
begins_by (kind.Word words.Synched) = true
begins_by (kind.Mark marks.OpenParenthesis) = true
begins_by (kind.Mark m) = is_some (sign_of (a_mark m))
begins_by _ = false
