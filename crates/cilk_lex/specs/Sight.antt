-- What stands at the front of a text, computed from its bytes. That this is what the rules say is proved of it.
use Rattle.std.specs.Prelude.{ℕ, suc, ◌+◌, ◌-◌, List, [], ◌∷◌, length, take, drop, Bool, true, false, cond, ◌&&◌, ◌==◌, Option, Some, None, codes, bytes_eq}
use Rattle.std.specs.Char.{is_ascii_digit, digit_value}
use Rattle.std.specs.Bool.{nat_le, nat_lt}
use Rattle.std.specs.List.{list_all, prefix_len}
use Rattle.std.specs.Str.Parse.{digits_value}
use Rattle.cilk_lex_tokens.specs.declared.fault.LexFault.{LexFault}
use Rattle.cilk_lex_tokens.specs.declared.fault.LexFault.TheVariants.{BadByte, OpenComment, OpenText, BadNumber, BadEscape, BadDirective}
use Rattle.cilk_lex_tokens.specs.declared.header.Header.{Header}
use Rattle.cilk_lex_tokens.specs.declared.header.Header.TheVariants as head
use Rattle.cilk_lex_tokens.specs.declared.keyword.Keyword.{Keyword}
use Rattle.cilk_lex_tokens.specs.declared.keyword.Keyword.TheVariants as key
use Rattle.cilk_lex_tokens.specs.declared.mark.Mark.{Mark}
use Rattle.cilk_lex_tokens.specs.declared.mark.Mark.TheVariants as sign
use Rattle.cilk_lex_tokens.specs.Byte.{is_blank, is_line_blank, is_line_end, is_printed, is_escape, is_x, begins_name, continues_name}
use Rattle.cilk_lex_tokens.specs.Byte.{continues_number, continues_header, opens_header}
use Rattle.cilk_lex_tokens.specs.Lexeme.{Lexeme, word, name, number, mark, literal, inclusion, body_says}
use Rattle.cilk_lex_tokens.specs.Spelling.{spelling, mark_spelling, header_spelling, closing_of, int_max}

-- a front of so many bytes, with its lexeme or a blank; a fault; or the end of the text
pub data Sight : Type 0 where
  found : ℕ → Option Lexeme → Sight
  amiss : LexFault → Sight
  nothing : Sight

-- ---- words and names

unfoldable pub all_words : List Keyword
all_words =
    key.Int ∷ key.Void ∷ key.If ∷ key.Else ∷ key.While ∷ key.Do ∷ key.For ∷ key.Break ∷ key.Continue ∷ key.Return ∷ key.Cilk ∷ key.Spawn
    ∷ key.Sync ∷ key.Inlet ∷ key.Abort ∷ key.Synched ∷ key.CilkLockvar ∷ key.Switch ∷ key.Case ∷ key.Default ∷ []

unfoldable pub word_in : List Keyword → List ℕ → Lexeme
word_in [] w = name w
word_in (k ∷ ks) w = cond (bytes_eq w (spelling k)) (word k) (word_in ks w)

unfoldable pub named : List ℕ → Lexeme
named w = word_in all_words w

unfoldable pub name_sight : List ℕ → Sight
name_sight text = found (prefix_len continues_name text) (Some (named (take (prefix_len continues_name text) text)))

-- ---- numbers

unfoldable pub is_numeral : ℕ → List ℕ → Bool
is_numeral radix [] = false
is_numeral radix (d ∷ ds) = list_all (λ c. nat_lt (digit_value c) radix) (d ∷ ds)

unfoldable pub valued : ℕ → List ℕ → Option ℕ
valued radix ds = cond (is_numeral radix ds && nat_le (digits_value radix ds) int_max) (Some (digits_value radix ds)) None

unfoldable pub number_in : List ℕ → Option ℕ
number_in [] = None
number_in (a ∷ []) = valued 10 (a ∷ [])
number_in (a ∷ b ∷ bs) = cond (a == 48) (cond (is_x b) (valued 16 bs) (valued 8 (b ∷ bs))) (valued 10 (a ∷ b ∷ bs))

unfoldable pub number_shown : ℕ → ℕ → Option ℕ → Sight
number_shown at n (Some v) = found n (Some (number v))
number_shown at n None = amiss (BadNumber at)

unfoldable pub number_sight : ℕ → List ℕ → Sight
number_sight at text = number_shown at (prefix_len continues_number text) (number_in (take (prefix_len continues_number text) text))

-- ---- marks

unfoldable pub assigning_marks : List Mark
assigning_marks =
    sign.AddAssign ∷ sign.SubtractAssign ∷ sign.MultiplyAssign ∷ sign.DivideAssign ∷ sign.RemainderAssign ∷ sign.ShiftLeftAssign
    ∷ sign.ShiftRightAssign ∷ sign.BitAndAssign ∷ sign.BitXorAssign ∷ sign.BitOrAssign ∷ []

unfoldable pub double_marks : List Mark
double_marks =
    sign.ShiftLeft ∷ sign.ShiftRight ∷ sign.LessOrEqual ∷ sign.GreaterOrEqual ∷ sign.Equal ∷ sign.NotEqual ∷ sign.And ∷ sign.Or
    ∷ sign.Increment ∷ sign.Decrement ∷ assigning_marks

unfoldable pub operator_marks : List Mark
operator_marks =
    sign.CloseBracket ∷ sign.Question ∷ sign.Colon ∷ sign.Slash ∷ sign.Percent ∷ sign.Ampersand ∷ sign.Bar ∷ sign.Caret ∷ sign.Tilde
    ∷ sign.Exclamation ∷ sign.Less ∷ sign.Greater ∷ double_marks

unfoldable pub all_marks : List Mark
all_marks =
    sign.OpenParenthesis ∷ sign.CloseParenthesis ∷ sign.OpenBrace ∷ sign.CloseBrace ∷ sign.Semicolon ∷ sign.Comma ∷ sign.Assign ∷ sign.Plus
    ∷ sign.Minus ∷ sign.Star ∷ sign.OpenBracket ∷ operator_marks

unfoldable pub mark_among : List Mark → List ℕ → Option Mark
mark_among [] w = None
mark_among (m ∷ ms) w = cond (bytes_eq w (mark_spelling m)) (Some m) (mark_among ms w)

-- the mark that the first n bytes are, if there are so many
unfoldable pub mark_in : ℕ → List ℕ → Option Mark
mark_in n text = cond (nat_le n (length text)) (mark_among all_marks (take n text)) None

unfoldable pub mark_shown : ℕ → Option Mark → Sight → Sight
mark_shown n (Some m) else = found n (Some (mark m))
mark_shown n None else = else

-- the longest mark: none has more than three bytes
unfoldable pub mark_sight : ℕ → List ℕ → Sight
mark_sight at text = mark_shown 3 (mark_in 3 text) (mark_shown 2 (mark_in 2 text) (mark_shown 1 (mark_in 1 text) (amiss (BadByte at))))

-- ---- comments

unfoldable pub opens_comment : List ℕ → Bool
opens_comment [] = false
opens_comment (a ∷ []) = false
opens_comment (a ∷ b ∷ bs) = (a == 47) && (b == 42)

-- the place of the first `*/`, where the first byte has the place i
unfoldable pub end_from : ℕ → List ℕ → Option ℕ
end_from i [] = None
end_from i (a ∷ []) = None
end_from i (a ∷ b ∷ bs) = cond ((a == 42) && (b == 47)) (Some i) (end_from (suc i) (b ∷ bs))

unfoldable pub comment_shown : ℕ → Option ℕ → Sight
comment_shown at (Some n) = found (4 + n) None
comment_shown at None = amiss (OpenComment at)

unfoldable pub comment_sight : ℕ → List ℕ → Sight
comment_sight at text = comment_shown at (end_from 0 (drop 2 text))

-- ---- text literals

-- the place of the quote that closes a text literal, where the first byte has the place i, and stands behind a backslash or not
unfoldable pub quote_from : Bool → ℕ → List ℕ → Option ℕ
quote_from escaped i [] = None
quote_from false i (b ∷ bs) = cond (b == 10) None (cond (b == 34) (Some i) (quote_from (b == 92) (suc i) bs))
quote_from true i (b ∷ bs) = cond (b == 10) None (quote_from false (suc i) bs)

-- the first fault between the quotes, where the first byte has the place at, and stands behind a backslash or not
unfoldable pub fault_from : Bool → ℕ → List ℕ → Option LexFault
fault_from escaped at [] = None
fault_from false at (b ∷ bs) = cond (b == 92) (fault_from true (suc at) bs) (cond (is_printed b) (fault_from false (suc at) bs) (Some (BadByte at)))
fault_from true at (c ∷ bs) = cond (is_escape c) (fault_from false (suc at) bs) (Some (BadEscape (at - 1)))

unfoldable pub body_shown : List ℕ → ℕ → Option LexFault → Sight
body_shown text n (Some f) = amiss f
body_shown text n None = found (2 + n) (Some (literal (body_says (drop 1 (take (2 + n) text)))))

unfoldable pub text_shown : ℕ → List ℕ → Option ℕ → Sight
text_shown at text (Some n) = body_shown text n (fault_from false (at + 1) (take n (drop 1 text)))
text_shown at text None = amiss (OpenText at)

unfoldable pub text_sight : ℕ → List ℕ → Sight
text_sight at text = text_shown at text (quote_from false 0 (drop 1 text))

-- ---- lines that include a header

unfoldable pub all_headers : List Header
all_headers = head.Cilk ∷ head.CilkLib ∷ head.CilkLibCilkh ∷ head.Stdio ∷ head.Stdlib ∷ []

unfoldable pub header_among : List Header → List ℕ → Option Header
header_among [] w = None
header_among (h ∷ hs) w = cond (bytes_eq w (header_spelling h)) (Some h) (header_among hs w)

-- whether nothing but spaces, tabs and carriage returns stand up to the end of the line
unfoldable pub ends_line : List ℕ → Bool
ends_line [] = true
ends_line (b ∷ bs) = cond (b == 10) true (is_line_end b && ends_line bs)

-- whether what closes the name that this byte opens stands at the front, and nothing more on its line
unfoldable pub closes : ℕ → List ℕ → Bool
closes q [] = false
closes q (c ∷ more) = (c == closing_of q) && ends_line more

-- the header whose name, with what opens and closes it, stands at the place i, and the place behind it
unfoldable pub closed_at : ℕ → ℕ → Option Header → List ℕ → Option (Header × ℕ)
closed_at q i None more = None
closed_at q i (Some h) more = cond (closes q more) (Some (h, suc i)) None

unfoldable pub header_at : ℕ → List ℕ → Option (Header × ℕ)
header_at i [] = None
header_at i (q ∷ bs) =
    let n = prefix_len continues_header bs in
    cond (opens_header q) (closed_at q (suc i + n) (header_among all_headers (take n bs)) (drop n bs)) None

unfoldable pub behind_word : ℕ → List ℕ → Option (Header × ℕ)
behind_word i text = let n = prefix_len is_line_blank text in header_at (i + n) (drop n text)

unfoldable pub word_at : ℕ → List ℕ → Option (Header × ℕ)
word_at i text =
    let n = prefix_len continues_name text in
    cond (bytes_eq (take n text) (codes "include")) (behind_word (i + n) (drop n text)) None

-- the header that a line includes, and where its name ends, behind a `#` at the place 0
unfoldable pub include_in : List ℕ → Option (Header × ℕ)
include_in text = let n = prefix_len is_line_blank text in word_at (1 + n) (drop n text)

unfoldable pub include_shown : ℕ → Option (Header × ℕ) → Sight
include_shown at (Some x) = found x.1 (Some (inclusion x.0))
include_shown at None = amiss (BadDirective at)

unfoldable pub include_sight : Bool → ℕ → List ℕ → Sight
include_sight fresh at text = include_shown at (cond fresh (include_in (drop 1 text)) None)

-- ---- all of them

unfoldable pub sight : Bool → ℕ → List ℕ → Sight
sight fresh at [] = nothing
sight fresh at (b ∷ bs) =
    cond (is_blank b) (found 1 None)
    (cond (begins_name b) (name_sight (b ∷ bs))
    (cond (is_ascii_digit b) (number_sight at (b ∷ bs))
    (cond (b == 34) (text_sight at (b ∷ bs))
    (cond (b == 35) (include_sight fresh at (b ∷ bs))
    (cond (opens_comment (b ∷ bs)) (comment_sight at (b ∷ bs)) (mark_sight at (b ∷ bs)))))))
