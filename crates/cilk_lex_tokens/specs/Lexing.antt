-- What a text is made of, and its first fault (C 1990, 6.1).
use Rattle.std.specs.Prelude.{◌≡◌, ◌≢◌, ℕ, ◌+◌, ◌≤◌, List, [], ◌∷◌, ◌++◌, length, Bool, ◌&&◌, ◌||◌, ◌==◌, IsTrue, IsFalse, Option, Some, None}
use Rattle.std.specs.Prelude.{◌⊎◌, codes}
use Rattle.std.specs.Char.{is_ascii_digit}
use Rattle.std.specs.List.{list_all}
use Rattle.cilk_lex_tokens.specs.declared.fault.LexFault.{LexFault}
use Rattle.cilk_lex_tokens.specs.declared.fault.LexFault.TheVariants.{BadByte, OpenComment, OpenText, BadNumber, BadEscape, BadDirective}
use Rattle.cilk_lex_tokens.specs.declared.header.Header.{Header}
use Rattle.cilk_lex_tokens.specs.declared.keyword.Keyword.{Keyword}
use Rattle.cilk_lex_tokens.specs.declared.mark.Mark.{Mark}
use Rattle.cilk_lex_tokens.specs.Byte.{is_blank, is_space, is_line_end, is_printed, is_escape, begins_name, continues_name, continues_number}
use Rattle.cilk_lex_tokens.specs.Lexeme.{Lexeme, word, name, number, mark, literal, inclusion, Piece}
use Rattle.cilk_lex_tokens.specs.Spelling.{spelling, mark_spelling, IsName, IsNumber, has_number_form, IsComment, NeverEnds, IsBody, Says, IsText, IsInclude}

-- the longest text, in bytes
abbrev pub text_limit : ℕ
text_limit = 1048576

-- ---- what stands behind a lexeme

-- what follows does not go on with a byte of this class
abbrev pub EndsBefore : (ℕ → Bool) → List ℕ → Type 0
EndsBefore class [] = Unit {0}
EndsBefore class (b ∷ bs) = IsFalse (class b)

-- no mark that is longer, and no comment, stands where this mark is followed by rest
pub record IsLongest (m : Mark) (rest : List ℕ) : Type 0 where
  pub no_longer : (n : Mark) (more : List ℕ) → mark_spelling m ++ rest ≡ mark_spelling n ++ more → length (mark_spelling n) ≤ length (mark_spelling m)
  pub no_comment : (more : List ℕ) → mark_spelling m ++ rest ≢ codes "/*" ++ more

-- at the end of a line, or of the text
abbrev pub AtLineEnd : List ℕ → Type 0
AtLineEnd [] = Unit {0}
AtLineEnd (b ∷ bs) = b ≡ 10

-- nothing but spaces, tabs and carriage returns up to there
pub record EndsLine (rest : List ℕ) : Type 0 where
  pub trailing : List ℕ
  pub more : List ℕ
  pub blank : IsTrue (list_all is_line_end trailing)
  pub at_end : AtLineEnd more
  pub form : rest ≡ trailing ++ more

-- ---- what a text begins with

-- Whether nothing but spaces and tabs stand before a place on its line, by whether it was so before the bytes that stand
-- there: behind a newline it is so, spaces and tabs leave it as it was, and behind any other byte it is not.
abbrev pub fresh_behind : Bool → List ℕ → Bool
fresh_behind fresh [] = fresh
fresh_behind fresh (b ∷ bs) = fresh_behind (b == 10 || (is_space b && fresh)) bs

-- Front fresh w rest x: of the text w ++ rest, the front w is the lexeme x, or a blank where x is None. A lexeme is as
-- long as can be (C 1990, 6.1). A line that includes a header begins where nothing else stands before it on its line.
pub data Front : Bool → List ℕ → List ℕ → Option Lexeme → Type 0 where
  of_blank : {fresh : Bool} {w rest : List ℕ} (b : ℕ) → IsTrue (is_blank b) → w ≡ b ∷ [] → Front fresh w rest None
  of_comment : {fresh : Bool} {w rest : List ℕ} → IsComment w → Front fresh w rest None
  of_word : {fresh : Bool} {w rest : List ℕ} (k : Keyword) → w ≡ spelling k → EndsBefore continues_name rest → Front fresh w rest (Some (word k))
  of_name : {fresh : Bool} {w rest : List ℕ} → IsName w → EndsBefore continues_name rest → Front fresh w rest (Some (name w))
  of_number : {fresh : Bool} {w rest : List ℕ} (n : ℕ) → IsNumber w n → EndsBefore continues_number rest → Front fresh w rest (Some (number n))
  of_mark : {fresh : Bool} {w rest : List ℕ} (m : Mark) → w ≡ mark_spelling m → IsLongest m rest → Front fresh w rest (Some (mark m))
  of_text : {fresh : Bool} {w rest : List ℕ} (said : List ℕ) → IsText w said → Front fresh w rest (Some (literal said))
  of_include : {fresh : Bool} {w rest : List ℕ} (h : Header) → IsTrue fresh → IsInclude w h → EndsLine rest → Front fresh w rest (Some (inclusion h))

-- Lexes fresh at text ps: the text, whose first byte has the place at, is made of the pieces ps, and of blanks.
pub data Lexes : Bool → ℕ → List ℕ → List Piece → Type 0 where
  finished : {fresh : Bool} {at : ℕ} {text : List ℕ} {ps : List Piece} → text ≡ [] → ps ≡ [] → Lexes fresh at text ps
  skipped : {fresh : Bool} {at : ℕ} {text w rest : List ℕ} {ps : List Piece} → Front fresh w rest None → text ≡ w ++ rest
      → Lexes (fresh_behind fresh w) (at + length w) rest ps → Lexes fresh at text ps
  taken : {fresh : Bool} {at : ℕ} {text w rest : List ℕ} {x : Lexeme} {ps qs : List Piece} → Front fresh w rest (Some x) → text ≡ w ++ rest
      → Lexes (fresh_behind fresh w) (at + length w) rest qs → ps ≡ record { lexeme = x; start = at; end = at + length w } ∷ qs → Lexes fresh at text ps

-- ---- faults

-- a text that begins with this byte, and with neither a blank nor a lexeme nor what only looks like one
pub record BeginsNothing (b : ℕ) (rest : List ℕ) : Type 0 where
  pub no_blank : IsFalse (is_blank b)
  pub no_name : IsFalse (begins_name b)
  pub no_number : IsFalse (is_ascii_digit b)
  pub no_quote : IsFalse (b == 34)
  pub no_directive : IsFalse (b == 35)
  pub no_mark : (m : Mark) (more : List ℕ) → b ∷ rest ≢ mark_spelling m ++ more

-- where a text literal stops that is not closed on its line: there, or at a backslash there
abbrev pub NotClosed : List ℕ → Type 0
NotClosed rest = AtLineEnd rest ⊎ ((more : List ℕ) × (rest ≡ 92 ∷ more) × AtLineEnd more)

-- the first fault between the quotes of a text literal, whose first byte there has the place at
pub data BodyFault : ℕ → List ℕ → LexFault → Type 0 where
  escape_fault : {at : ℕ} {body : List ℕ} {f : LexFault} (good said more : List ℕ) (c : ℕ) → Says good said → IsFalse (is_escape c)
      → body ≡ good ++ (92 ∷ c ∷ more) → f ≡ BadEscape (at + length good) → BodyFault at body f
  byte_fault : {at : ℕ} {body : List ℕ} {f : LexFault} (good said more : List ℕ) (b : ℕ) → Says good said → IsFalse (is_printed b)
      → body ≡ good ++ (b ∷ more) → f ≡ BadByte (at + length good) → BodyFault at body f

-- Amiss fresh at text f: at the front of the text, whose first byte has the place at, stands the fault f.
pub data Amiss : Bool → ℕ → List ℕ → LexFault → Type 0 where
  bad_byte : {fresh : Bool} {at b : ℕ} {text : List ℕ} {f : LexFault} (rest : List ℕ) → BeginsNothing b rest → text ≡ b ∷ rest
      → f ≡ BadByte at → Amiss fresh at text f
  open_comment : {fresh : Bool} {at : ℕ} {text : List ℕ} {f : LexFault} (rest : List ℕ) → NeverEnds rest → text ≡ codes "/*" ++ rest
      → f ≡ OpenComment at → Amiss fresh at text f
  open_text : {fresh : Bool} {at : ℕ} {text : List ℕ} {f : LexFault} (body rest : List ℕ) → IsBody body → NotClosed rest → text ≡ codes "\"" ++ (body ++ rest)
      → f ≡ OpenText at → Amiss fresh at text f
  bad_text : {fresh : Bool} {at : ℕ} {text : List ℕ} {f : LexFault} (body rest : List ℕ) → IsBody body → BodyFault (at + 1) body f
      → text ≡ codes "\"" ++ (body ++ (codes "\"" ++ rest)) → Amiss fresh at text f
  bad_number : {fresh : Bool} {at : ℕ} {text : List ℕ} {f : LexFault} (w rest : List ℕ) → IsTrue (has_number_form w) → EndsBefore continues_number rest
      → ((n : ℕ) → IsNumber w n → ⊥) → text ≡ w ++ rest → f ≡ BadNumber at → Amiss fresh at text f
  bad_directive : {fresh : Bool} {at : ℕ} {text : List ℕ} {f : LexFault} (rest : List ℕ) → text ≡ codes "#" ++ rest
      → ((w more : List ℕ) (h : Header) → IsTrue fresh → text ≡ w ++ more → IsInclude w h → EndsLine more → ⊥) → f ≡ BadDirective at → Amiss fresh at text f

-- Faulty fresh at text f: the first fault from the left, in a text whose first byte has the place at.
pub data Faulty : Bool → ℕ → List ℕ → LexFault → Type 0 where
  here : {fresh : Bool} {at : ℕ} {text : List ℕ} {f : LexFault} → Amiss fresh at text f → Faulty fresh at text f
  later : {fresh : Bool} {at : ℕ} {text w rest : List ℕ} {x : Option Lexeme} {f : LexFault} → Front fresh w rest x → text ≡ w ++ rest
      → Faulty (fresh_behind fresh w) (at + length w) rest f → Faulty fresh at text f
