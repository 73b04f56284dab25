-- How words, names, numbers, marks, comments, text literals and lines that include a header are spelled.
use Rattle.std.specs.Prelude.{◌≡◌, ◌≢◌, ℕ, ◌≤◌, List, [], ◌∷◌, ◌++◌, Bool, false, ◌&&◌, ◌==◌, if◌then◌else◌, IsTrue, codes}
use Rattle.std.specs.Char.{is_ascii_digit}
use Rattle.std.specs.Int.{is_in_range}
use Rattle.std.specs.List.{list_all}
use Rattle.std.specs.Str.Parse.{AllDigits, IsNumeral, digits_value}
use Rattle.cilk_lex_tokens.specs.declared.header.Header.{Header}
use Rattle.cilk_lex_tokens.specs.declared.header.Header.TheVariants as head
use Rattle.cilk_lex_tokens.specs.declared.keyword.Keyword.{Keyword}
use Rattle.cilk_lex_tokens.specs.declared.keyword.Keyword.TheVariants as key
use Rattle.cilk_lex_tokens.specs.declared.mark.Mark.{Mark}
use Rattle.cilk_lex_tokens.specs.declared.mark.Mark.TheVariants as sign
use Rattle.cilk_lex_tokens.specs.Byte.{begins_name, continues_name, continues_number, is_line_blank, is_x, is_plain, is_escape, is_within_text, opens_header}
use Rattle.cilk_lex_tokens.specs.Lexeme.{escaped}

-- the words (C 1990, 6.1.1; Cilk 5.4 manual, keywords)
abbrev pub spelling : Keyword → List ℕ
spelling key.Int = codes "int"
spelling key.Void = codes "void"
spelling key.If = codes "if"
spelling key.Else = codes "else"
spelling key.While = codes "while"
spelling key.Do = codes "do"
spelling key.For = codes "for"
spelling key.Break = codes "break"
spelling key.Continue = codes "continue"
spelling key.Return = codes "return"
spelling key.Cilk = codes "cilk"
spelling key.Spawn = codes "spawn"
spelling key.Sync = codes "sync"
spelling key.Inlet = codes "inlet"
spelling key.Abort = codes "abort"
spelling key.Synched = codes "SYNCHED"
spelling key.CilkLockvar = codes "Cilk_lockvar"
spelling key.Switch = codes "switch"
spelling key.Case = codes "case"
spelling key.Default = codes "default"

-- the marks (C 1990, 6.1.5 and 6.1.6)
abbrev pub mark_spelling : Mark → List ℕ
mark_spelling sign.OpenParenthesis = codes "("
mark_spelling sign.CloseParenthesis = codes ")"
mark_spelling sign.OpenBrace = codes "{"
mark_spelling sign.CloseBrace = codes "}"
mark_spelling sign.Semicolon = codes ";"
mark_spelling sign.Comma = codes ","
mark_spelling sign.Assign = codes "="
mark_spelling sign.Plus = codes "+"
mark_spelling sign.Minus = codes "-"
mark_spelling sign.Star = codes "*"
mark_spelling sign.OpenBracket = codes "["
mark_spelling sign.CloseBracket = codes "]"
mark_spelling sign.Question = codes "?"
mark_spelling sign.Colon = codes ":"
mark_spelling sign.Slash = codes "/"
mark_spelling sign.Percent = codes "%"
mark_spelling sign.Ampersand = codes "&"
mark_spelling sign.Bar = codes "|"
mark_spelling sign.Caret = codes "^"
mark_spelling sign.Tilde = codes "~"
mark_spelling sign.Exclamation = codes "!"
mark_spelling sign.Less = codes "<"
mark_spelling sign.Greater = codes ">"
mark_spelling sign.ShiftLeft = codes "<<"
mark_spelling sign.ShiftRight = codes ">>"
mark_spelling sign.LessOrEqual = codes "<="
mark_spelling sign.GreaterOrEqual = codes ">="
mark_spelling sign.Equal = codes "=="
mark_spelling sign.NotEqual = codes "!="
mark_spelling sign.And = codes "&&"
mark_spelling sign.Or = codes "||"
mark_spelling sign.Increment = codes "++"
mark_spelling sign.Decrement = codes "--"
mark_spelling sign.AddAssign = codes "+="
mark_spelling sign.SubtractAssign = codes "-="
mark_spelling sign.MultiplyAssign = codes "*="
mark_spelling sign.DivideAssign = codes "/="
mark_spelling sign.RemainderAssign = codes "%="
mark_spelling sign.ShiftLeftAssign = codes "<<="
mark_spelling sign.ShiftRightAssign = codes ">>="
mark_spelling sign.BitAndAssign = codes "&="
mark_spelling sign.BitXorAssign = codes "^="
mark_spelling sign.BitOrAssign = codes "|="

-- a letter or an underscore, and letters, underscores and digits
abbrev pub has_name_form : List ℕ → Bool
has_name_form [] = false
has_name_form (b ∷ bs) = begins_name b && list_all continues_name bs

-- an identifier, which is no word (C 1990, 6.1.2)
pub record IsName (w : List ℕ) : Type 0 where
  pub form : IsTrue (has_name_form w)
  pub no_word : (k : Keyword) → w ≢ spelling k

-- a digit, and letters, underscores, digits and points (C 1990, 6.1.8)
abbrev pub has_number_form : List ℕ → Bool
has_number_form [] = false
has_number_form (b ∷ bs) = is_ascii_digit b && list_all continues_number bs

-- the largest int (C 1990, 5.2.4.2.1)
abbrev pub int_max : ℕ
int_max = 2147483647

-- an integer constant, and its value (C 1990, 6.1.3.2)
pub data IsNumber : List ℕ → ℕ → Type 0 where
  zero_alone : {w : List ℕ} {n : ℕ} → w ≡ codes "0" → n ≡ 0 → IsNumber w n
  -- digits, of which the first is not 0
  decimal_digits : {w bs : List ℕ} {n b : ℕ} → w ≡ b ∷ bs → IsTrue (is_in_range 49 57 b) → AllDigits 10 w → digits_value 10 w ≡ n → n ≤ int_max → IsNumber w n
  -- 0 and octal digits
  octal_digits : {w bs : List ℕ} {n : ℕ} → w ≡ 48 ∷ bs → IsNumeral 8 bs → digits_value 8 bs ≡ n → n ≤ int_max → IsNumber w n
  -- 0x or 0X, and hexadecimal digits
  hexadecimal_digits : {w bs : List ℕ} {n x : ℕ} → w ≡ 48 ∷ x ∷ bs → IsTrue (is_x x) → IsNumeral 16 bs → digits_value 16 bs ≡ n → n ≤ int_max → IsNumber w n

-- no end of a comment stands in these bytes
abbrev pub NeverEnds : List ℕ → Type 0
NeverEnds w = (v rest : List ℕ) → w ≢ v ++ (codes "*/" ++ rest)

-- a comment: up to the first `*/` behind its `/*`, whatever bytes there are between (C 1990, 6.1.9)
pub record IsComment (w : List ℕ) : Type 0 where
  pub inside : List ℕ
  pub never_ends : NeverEnds inside
  pub form : w ≡ codes "/*" ++ (inside ++ codes "*/")

-- the bytes of a text literal between its quotes, as far as these are found: a backslash takes the byte behind it
-- along, so that a quote there closes nothing (C 1990, 6.1.4)
pub data IsBody : List ℕ → Type 0 where
  no_bytes : IsBody []
  one_byte : {w : List ℕ} (b : ℕ) → IsTrue (is_within_text b) → IsBody w → IsBody (b ∷ w)
  two_bytes : {w : List ℕ} (c : ℕ) → c ≢ 10 → IsBody w → IsBody (92 ∷ c ∷ w)

-- Says w s: the bytes w between the quotes say s: each byte itself, and an escape what it stands for (C 1990, 6.1.3.4)
pub data Says : List ℕ → List ℕ → Type 0 where
  says_nothing : Says [] []
  says_byte : {w s : List ℕ} (b : ℕ) → IsTrue (is_plain b) → Says w s → Says (b ∷ w) (b ∷ s)
  says_escape : {w s : List ℕ} (c : ℕ) → IsTrue (is_escape c) → Says w s → Says (92 ∷ c ∷ w) (escaped c ∷ s)

-- a text literal, and what it says (C 1990, 6.1.4)
pub record IsText (w said : List ℕ) : Type 0 where
  pub body : List ℕ
  pub says : Says body said
  pub form : w ≡ codes "\"" ++ (body ++ codes "\"")

-- the headers that a program may include
abbrev pub header_spelling : Header → List ℕ
header_spelling head.Cilk = codes "cilk.h"
header_spelling head.CilkLib = codes "cilk-lib.h"
header_spelling head.CilkLibCilkh = codes "cilk-lib.cilkh"
header_spelling head.Stdio = codes "stdio.h"
header_spelling head.Stdlib = codes "stdlib.h"

-- what closes a header's name: `>` behind `<`, and else a quote (C 1990, 6.1.7)
abbrev pub closing_of : ℕ → ℕ
closing_of b = if b == 60 then 62 else 34

-- a line that includes a header, from its `#` to the end of the header's name (C 1990, 6.8.2)
pub record IsInclude (w : List ℕ) (h : Header) : Type 0 where
  pub before : List ℕ
  pub between : List ℕ
  pub opening : ℕ
  pub blank_before : IsTrue (list_all is_line_blank before)
  pub blank_between : IsTrue (list_all is_line_blank between)
  pub opens : IsTrue (opens_header opening)
  pub form : w ≡ codes "#" ++ (before ++ (codes "include" ++ (between ++ (opening ∷ (header_spelling h ++ (closing_of opening ∷ []))))))
