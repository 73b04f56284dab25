-- The class of a token, a number: all that a rule looks at. Each word and each mark has its own, and so has each name to
-- which a rule gives a meaning; other names share one, and so do numbers, text literals and inclusions.
use Rattle.std.specs.Prelude.{ℕ, if◌then◌else◌, List, [], ◌∷◌, codes}
use Rattle.std.specs.Str.{bytes_eq}
use Rattle.cilk_tree_syntax.specs.lexeme.Lexeme.{Lexeme, Piece, word, name, number, mark, literal, inclusion}
use Rattle.cilk_tree_syntax.specs.lexeme.declared.keyword.Keyword.{Keyword}
use Rattle.cilk_tree_syntax.specs.lexeme.declared.keyword.Keyword.TheVariants as words
use Rattle.cilk_tree_syntax.specs.lexeme.declared.mark.Mark.{Mark}
use Rattle.cilk_tree_syntax.specs.lexeme.declared.mark.Mark.TheVariants as marks

-- a word
abbrev pub a_word : Keyword → ℕ
a_word words.Int = 0
a_word words.Void = 1
a_word words.If = 2
a_word words.Else = 3
a_word words.While = 4
a_word words.Do = 5
a_word words.For = 6
a_word words.Break = 7
a_word words.Continue = 8
a_word words.Return = 9
a_word words.Cilk = 10
a_word words.Spawn = 11
a_word words.Sync = 12
a_word words.Inlet = 13
a_word words.Abort = 14
a_word words.Synched = 15
a_word words.CilkLockvar = 16
a_word words.Switch = 17
a_word words.Case = 18
a_word words.Default = 19

-- a mark
abbrev pub a_mark : Mark → ℕ
a_mark marks.OpenParenthesis = 20
a_mark marks.CloseParenthesis = 21
a_mark marks.OpenBrace = 22
a_mark marks.CloseBrace = 23
a_mark marks.Semicolon = 24
a_mark marks.Comma = 25
a_mark marks.Assign = 26
a_mark marks.Plus = 27
a_mark marks.Minus = 28
a_mark marks.Star = 29
a_mark marks.OpenBracket = 30
a_mark marks.CloseBracket = 31
a_mark marks.Question = 32
a_mark marks.Colon = 33
a_mark marks.Slash = 34
a_mark marks.Percent = 35
a_mark marks.Ampersand = 36
a_mark marks.Bar = 37
a_mark marks.Caret = 38
a_mark marks.Tilde = 39
a_mark marks.Exclamation = 40
a_mark marks.Less = 41
a_mark marks.Greater = 42
a_mark marks.ShiftLeft = 43
a_mark marks.ShiftRight = 44
a_mark marks.LessOrEqual = 45
a_mark marks.GreaterOrEqual = 46
a_mark marks.Equal = 47
a_mark marks.NotEqual = 48
a_mark marks.And = 49
a_mark marks.Or = 50
a_mark marks.Increment = 51
a_mark marks.Decrement = 52
a_mark marks.AddAssign = 53
a_mark marks.SubtractAssign = 54
a_mark marks.MultiplyAssign = 55
a_mark marks.DivideAssign = 56
a_mark marks.RemainderAssign = 57
a_mark marks.ShiftLeftAssign = 58
a_mark marks.ShiftRightAssign = 59
a_mark marks.BitAndAssign = 60
a_mark marks.BitXorAssign = 61
a_mark marks.BitOrAssign = 62

-- the names that a rule tells from others, and one for all others
abbrev pub the_main : ℕ
the_main = 63

abbrev pub the_char : ℕ
the_char = 64

abbrev pub the_printf : ℕ
the_printf = 65

abbrev pub the_lock_init : ℕ
the_lock_init = 66

abbrev pub the_lock : ℕ
the_lock = 67

abbrev pub the_unlock : ℕ
the_unlock = 68

abbrev pub other_name : ℕ
other_name = 69

-- a name, by its text
abbrev pub name_class : List ℕ → ℕ
name_class text =
    if bytes_eq text (codes "main") then the_main else (
    if bytes_eq text (codes "char") then the_char else (
    if bytes_eq text (codes "printf") then the_printf else (
    if bytes_eq text (codes "Cilk_lock_init") then the_lock_init else (
    if bytes_eq text (codes "Cilk_lock") then the_lock else (if bytes_eq text (codes "Cilk_unlock") then the_unlock else other_name)))))

abbrev pub a_number : ℕ
a_number = 70

abbrev pub a_literal : ℕ
a_literal = 71

abbrev pub an_inclusion : ℕ
an_inclusion = 72

abbrev pub class_of : Lexeme → ℕ
class_of (word k) = a_word k
class_of (name text) = name_class text
class_of (number n) = a_number
class_of (mark m) = a_mark m
class_of (literal bytes) = a_literal
class_of (inclusion header) = an_inclusion

-- what a rule sees of a token
abbrev pub lexeme_of : Piece → Lexeme
lexeme_of t = t.lexeme

abbrev pub cls : Piece → ℕ
cls t = class_of (lexeme_of t)

-- each name
abbrev pub names : List ℕ
names = the_main ∷ the_char ∷ the_printf ∷ the_lock_init ∷ the_lock ∷ the_unlock ∷ other_name ∷ []
