-- What every lexeme of a text is.
use Rattle.std.specs.Prelude.{ℕ, ◌≤◌, Bool, ◌||◌, ◌==◌, IsTrue}
use Rattle.std.specs.List.{list_all}
use Rattle.cilk_lex_tokens.specs.Byte.{is_printed}
use Rattle.cilk_lex_tokens.specs.Lexeme.{Lexeme, word, name, number, mark, literal, inclusion}
use Rattle.cilk_lex_tokens.specs.Spelling.{IsName, int_max}

-- a byte that a text literal can say: one that can be printed, a newline or a tab (C 1990, 6.1.3.4 and 6.1.4)
abbrev pub is_sayable : ℕ → Bool
is_sayable b = is_printed b || (b == 10 || b == 9)

-- a name is an identifier that is no word (C 1990, 6.1.2), a number is an int (C 1990, 6.1.3.2), and a text literal says
-- what one can say
abbrev pub IsGoodLexeme : Lexeme → Type 0
IsGoodLexeme (word k) = Unit {0}
IsGoodLexeme (name w) = IsName w
IsGoodLexeme (number n) = n ≤ int_max
IsGoodLexeme (mark m) = Unit {0}
IsGoodLexeme (literal s) = IsTrue (list_all is_sayable s)
IsGoodLexeme (inclusion h) = Unit {0}
