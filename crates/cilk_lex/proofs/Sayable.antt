-- The lexemes of a text are good, and what is good can be spelled.
use Rattle.std.proofs.Common.{◌≡◌, ℕ, Bool, true, List, Option, Some, None, refl, arith}
use Rattle.std.proofs.lemmas.Bool.{and_from}
use Rattle.std.specs.Prelude.{All}
use Rattle.std.specs.List.{list_all}
use Rattle.std.proofs.lemmas.Bool.Decides.{nat_tests}
use Rattle.std.proofs.lemmas.List.Elements.{All-nil, All-cons}
use Rattle.cilk_lex_tokens.specs.Byte.{is_plain, is_escape}
use Rattle.cilk_lex_tokens.specs.Good.{is_sayable, IsGoodLexeme}
use Rattle.cilk_lex_tokens.specs.Lexeme.{Lexeme, Piece, escaped}
use Rattle.cilk_lex_tokens.specs.Lexing.{Front, of_blank, of_comment, of_word, of_name, of_number, of_mark, of_text, of_include, Lexes, finished}
use Rattle.cilk_lex_tokens.specs.Lexing.{skipped, taken}
use Rattle.cilk_lex_tokens.specs.Spelling.{Says, says_nothing, says_byte, says_escape}
use Rattle.cilk_lex.proofs.Numbers.{number_le}

-- ---- what literals say

plain_sayable : (b : ℕ) → is_plain b ≡ true → is_sayable b ≡ true
plain_sayable b h = grind (arith, nat_tests)

escape_sayable : (c : ℕ) → is_escape c ≡ true → is_sayable (escaped c) ≡ true
escape_sayable c h = grind (arith, nat_tests)

pub says_sayable : {w s : List ℕ} → Says w s → list_all is_sayable s ≡ true
says_sayable says_nothing = refl
says_sayable (says_byte {s = s} b h r) = and_from (is_sayable b) (list_all is_sayable s) (plain_sayable b h) (says_sayable r)
says_sayable (says_escape {s = s} c h r) = and_from (is_sayable (escaped c)) (list_all is_sayable s) (escape_sayable c h) (says_sayable r)

-- ---- lexemes

-- the lexeme at a text's front, if there is one, is good
abbrev IsGoodFront : Option Lexeme → Type 0
IsGoodFront None = Unit {0}
IsGoodFront (Some x) = IsGoodLexeme x

good_front : {fresh : Bool} {w rest : List ℕ} {x : Option Lexeme} → Front fresh w rest x → IsGoodFront x
good_front (of_blank b h e) = tt
good_front (of_comment c) = tt
good_front (of_word k e s) = tt
good_front (of_name n s) = n
good_front (of_number n h s) = number_le h
good_front (of_mark m e s) = tt
good_front (of_text said x) = says_sayable x.says
good_front (of_include h f x e) = tt

abbrev pub IsGoodPiece : Piece → Type 0
IsGoodPiece p = IsGoodLexeme p.lexeme

-- each name of a text is an identifier, each number an int, and each literal says what one can say
pub good_pieces : {fresh : Bool} {at : ℕ} {text : List ℕ} {ps : List Piece} → Lexes fresh at text ps → All (λ p. IsGoodLexeme p.lexeme) ps
good_pieces (finished e p) = rw p (All-nil IsGoodPiece)
good_pieces (skipped f e l) = good_pieces l
good_pieces {at = at} (taken {w = w} {x = x} {qs = qs} f e l p) = rw p (All-cons IsGoodPiece _ qs (good_front f) (good_pieces l))
