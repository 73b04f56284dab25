-- What is computed of the front of a text is what the rules say.
use Rattle.std.proofs.Common.{◌≡◌, ℕ, None, Bool, true, false, cond, List, [], ◌∷◌, refl, arith}
use Rattle.std.specs.Prelude.{◌==◌}
use Rattle.std.specs.Char.{is_ascii_digit}
use Rattle.std.proofs.lemmas.Bool.{eqb-true}
use Rattle.cilk_lex_tokens.specs.Byte.{is_blank, begins_name}
use Rattle.cilk_lex_tokens.specs.Lexing.{of_blank}
use Rattle.cilk_lex.specs.Sight.{found, opens_comment, name_sight, number_sight, mark_sight, comment_sight, text_sight, include_sight, sight}
use Rattle.cilk_lex.proofs.Comments.{comment_sees}
use Rattle.cilk_lex.proofs.Inclusions.{include_sees}
use Rattle.cilk_lex.proofs.Marks.{mark_sees}
use Rattle.cilk_lex.proofs.Numbers.{number_sees}
use Rattle.cilk_lex.proofs.Shows.{Shows}
use Rattle.cilk_lex.proofs.Quotes.{text_sees}
use Rattle.cilk_lex.proofs.Words.{name_sees}

pub sees : (fresh : Bool) (at : ℕ) (text : List ℕ) → Shows fresh at text (sight fresh at text)
unfolding sight
sees fresh at [] = refl
sees fresh at (b ∷ bs) = is (is_blank b) (begins_name b) (is_ascii_digit b) (b == 34) (b == 35) (opens_comment (b ∷ bs)) refl refl refl refl refl refl
  where
    is : (c d e f g h : Bool) → is_blank b ≡ c → begins_name b ≡ d → is_ascii_digit b ≡ e → (b == 34) ≡ f → (b == 35) ≡ g → opens_comment (b ∷ bs) ≡ h
        → Shows fresh at (b ∷ bs) (cond c (found 1 None) (cond d (name_sight (b ∷ bs)) (cond e (number_sight at (b ∷ bs)) (cond f (text_sight at (b ∷ bs))
        (cond g (include_sight fresh at (b ∷ bs)) (cond h (comment_sight at (b ∷ bs)) (mark_sight at (b ∷ bs))))))))
    is true d e f g h i j k l m n = (omega arith, of_blank b i refl)
    is false true e f g h i j k l m n = name_sees fresh at b bs j
    is false false true f g h i j k l m n = number_sees fresh at b bs k
    is false false false true g h i j k l m n = rw (eqb-true b 34 l) (text_sees fresh at bs)
    is false false false false true h i j k l m n = rw (eqb-true b 35 m) (include_sees fresh at bs)
    is false false false false false true i j k l m n = comment_sees fresh at (b ∷ bs) n
    is false false false false false false i j k l m n = mark_sees fresh at b bs (rw (i, j, k, l, m) refl) n
