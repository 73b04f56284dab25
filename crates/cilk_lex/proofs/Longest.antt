-- Behind which marks, and in front of which bytes, no longer mark can stand.
use Rattle.std.proofs.Common.{◌≡◌, ℕ, ◌<◌, ◌≤◌, Bool, true, false, ◌&&◌, ◌||◌, ◌==◌, leb, List, [], ◌∷◌, ◌++◌, length, get_or, codes, refl, sym, ap}
use Rattle.std.proofs.Common.{subst, ◌∙◌, inl, inr, arith}
use Rattle.std.specs.Char.{is_ascii_digit}
use Rattle.std.specs.List.{list_all}
use Rattle.std.proofs.lemmas.Bool.{false≢true, leb-true, and_parts, or_cases}
use Rattle.std.proofs.lemmas.Bool.Decides.{nat_tests}
use Rattle.cilk_lex_tokens.specs.declared.mark.Mark.{Mark}
use Rattle.cilk_lex_tokens.specs.declared.mark.Mark.TheVariants as sign
use Rattle.cilk_lex_tokens.specs.Lexing.{EndsBefore, IsLongest}
use Rattle.cilk_lex_tokens.specs.Spelling.{mark_spelling, IsName, IsNumber, has_name_form, has_number_form}
use Rattle.cilk_lex.specs.Sight.{opens_comment}
use Rattle.cilk_lex.proofs.Marks.{mark_form}
use Rattle.cilk_lex_tokens.specs.Byte.{begins_name, continues_name, continues_number}
use Rattle.cilk_lex.proofs.Numbers.{constant_form}

-- the bytes = < > & | + and -, which stand behind the first of a mark, and *, which makes a comment of a slash
abbrev pub continues_mark : ℕ → Bool
continues_mark b = b == 61 || (b == 60 || (b == 62 || (b == 38 || (b == 124 || (b == 43 || (b == 45 || b == 42))))))

-- these and / % ^ and !, with which the longer marks and comments begin
abbrev pub opens_mark : ℕ → Bool
opens_mark b = continues_mark b || (b == 47 || (b == 37 || (b == 94 || b == 33)))

abbrev pub first_byte : Mark → ℕ
first_byte m = get_or (mark_spelling m) 0 0

behind : List ℕ → List ℕ
behind [] = []
behind (b ∷ bs) = bs

passes : List ℕ → Bool
passes w = list_all continues_mark (behind w) && (leb (length w) 1 || opens_mark (get_or w 0 0))

passed : (m : Mark) → passes (mark_spelling m) ≡ true
unfolding passes behind
passed sign.OpenParenthesis = refl
passed sign.CloseParenthesis = refl
passed sign.OpenBrace = refl
passed sign.CloseBrace = refl
passed sign.Semicolon = refl
passed sign.Comma = refl
passed sign.Assign = refl
passed sign.Plus = refl
passed sign.Minus = refl
passed sign.Star = refl
passed sign.OpenBracket = refl
passed sign.CloseBracket = refl
passed sign.Question = refl
passed sign.Colon = refl
passed sign.Slash = refl
passed sign.Percent = refl
passed sign.Ampersand = refl
passed sign.Bar = refl
passed sign.Caret = refl
passed sign.Tilde = refl
passed sign.Exclamation = refl
passed sign.Less = refl
passed sign.Greater = refl
passed sign.ShiftLeft = refl
passed sign.ShiftRight = refl
passed sign.LessOrEqual = refl
passed sign.GreaterOrEqual = refl
passed sign.Equal = refl
passed sign.NotEqual = refl
passed sign.And = refl
passed sign.Or = refl
passed sign.Increment = refl
passed sign.Decrement = refl
passed sign.AddAssign = refl
passed sign.SubtractAssign = refl
passed sign.MultiplyAssign = refl
passed sign.DivideAssign = refl
passed sign.RemainderAssign = refl
passed sign.ShiftLeftAssign = refl
passed sign.ShiftRightAssign = refl
passed sign.BitAndAssign = refl
passed sign.BitXorAssign = refl
passed sign.BitOrAssign = refl

-- a run of a class is not longer than what is followed by something else
not_past : (class : ℕ → Bool) (xs ys rest more : List ℕ) → list_all class ys ≡ true → EndsBefore class rest → xs ++ rest ≡ ys ++ more → length ys ≤ length xs
not_past class xs [] rest more h e q = omega arith
not_past class [] (y ∷ ys) [] more h e q = absurd cc
not_past class [] (y ∷ ys) (r ∷ rest) more h e q =
    let same : r ≡ y = cc in
    absurd (false≢true (sym e ∙ ap class same ∙ (and_parts (class y) (list_all class ys) h).0))
not_past class (x ∷ xs) (y ∷ ys) rest more h e q =
    let tails : xs ++ rest ≡ ys ++ more = cc in
    omega (arith, not_past class xs ys rest more (and_parts (class y) (list_all class ys) h).1 e tails)

past_first : (xs ys rest more : List ℕ) → 0 < length xs → list_all continues_mark (behind ys) ≡ true → EndsBefore continues_mark rest
    → xs ++ rest ≡ ys ++ more → length ys ≤ length xs
unfolding behind
past_first [] ys rest more p h e q = absurd (omega (arith, p))
past_first (x ∷ xs) [] rest more p h e q = omega arith
past_first (x ∷ xs) (y ∷ ys) rest more p h e q =
    let tails : xs ++ rest ≡ ys ++ more = cc in
    omega (arith, not_past continues_mark xs ys rest more h e tails)

-- a mark before which no comment begins, by its own bytes
comment_split : (w rest more : List ℕ) → 0 < length w → opens_comment w ≡ false → w ++ rest ≡ codes "/*" ++ more → (w ≡ codes "/") × (rest ≡ 42 ∷ more)
unfolding opens_comment
comment_split [] rest more p c e = absurd (omega (arith, p))
comment_split (a ∷ []) rest more p c e = let s : a ≡ 47 = cc in let r : rest ≡ 42 ∷ more = cc in (rw s refl, r)
comment_split (a ∷ b ∷ w) rest more p c e =
    let s : a ≡ 47 = cc in
    let tails : ◌≡◌ {A = List ℕ} (b ∷ (w ++ rest)) (42 ∷ more) = cc in
    let r : b ≡ 42 = cc in
    absurd (false≢true (sym c ∙ rw (s, r) refl))

stopped : (rest more : List ℕ) → EndsBefore continues_mark rest → rest ≡ 42 ∷ more → ⊥
stopped rest more e s = let h : EndsBefore continues_mark (42 ∷ more) = subst (λ t. EndsBefore continues_mark t) s e in absurd (false≢true (sym h))

-- any mark, in front of a byte that continues none
pub longest_before : (m : Mark) (rest : List ℕ) → EndsBefore continues_mark rest → IsLongest m rest
unfolding passes
longest_before m rest e = record {
  no_longer = λ n more q.
      let p = and_parts (list_all continues_mark (behind (mark_spelling n))) (leb (length (mark_spelling n)) 1 || opens_mark (first_byte n)) (passed n) in
      past_first (mark_spelling m) (mark_spelling n) rest more (mark_form m).some p.0 e q;
  no_comment = λ more q. let s = comment_split (mark_spelling m) rest more (mark_form m).some (mark_form m).no_comment q in stopped rest more e s.1;
}

same_first : (xs ys rest more : List ℕ) → 0 < length xs → 0 < length ys → xs ++ rest ≡ ys ++ more → get_or xs 0 0 ≡ get_or ys 0 0
same_first [] ys rest more p q e = absurd (omega (arith, p))
same_first (x ∷ xs) [] rest more p q e = absurd (omega (arith, q))
same_first (x ∷ xs) (y ∷ ys) rest more p q e = let h : x ≡ y = cc in h

-- a mark with which no longer one begins
pub longest_alone : (m : Mark) (rest : List ℕ) → opens_mark (first_byte m) ≡ false → IsLongest m rest
unfolding passes
longest_alone m rest closed = record {
  no_longer = λ n more q.
      let p = and_parts (list_all continues_mark (behind (mark_spelling n))) (leb (length (mark_spelling n)) 1 || opens_mark (first_byte n)) (passed n) in
      let here = (mark_form m).some in
      elim (or_cases (leb (length (mark_spelling n)) 1) (opens_mark (first_byte n)) p.1) [
        | inl one ↦ omega (arith, here, leb-true (length (mark_spelling n)) 1 one)
        | inr opens ↦
            let same = same_first (mark_spelling m) (mark_spelling n) rest more here (mark_form n).some q in
            absurd (false≢true (sym closed ∙ ap opens_mark same ∙ opens))
      ];
  no_comment = λ more q.
      let s = (comment_split (mark_spelling m) rest more (mark_form m).some (mark_form m).no_comment q).0 in
      absurd (false≢true (sym closed ∙ ap (λ w. opens_mark (get_or w 0 0)) s));
}

-- ---- texts in front of which a mark ends

-- not empty, and the first byte continues no mark
abbrev pub BeginsNoMark : List ℕ → Type 0
BeginsNoMark [] = ⊥
BeginsNoMark (b ∷ bs) = continues_mark b ≡ false

pub no_mark_on : (t rest : List ℕ) → BeginsNoMark t → EndsBefore continues_mark (t ++ rest)
no_mark_on [] rest h = absurd h
no_mark_on (b ∷ bs) rest h = h

name_byte : (b : ℕ) → begins_name b ≡ true → continues_mark b ≡ false
name_byte b h = grind (arith, nat_tests)

digit_byte : (b : ℕ) → is_ascii_digit b ≡ true → continues_mark b ≡ false
digit_byte b h = grind (arith, nat_tests)

name_form_begins : (w : List ℕ) → has_name_form w ≡ true → BeginsNoMark w
name_form_begins [] h = absurd (false≢true h)
name_form_begins (b ∷ bs) h = name_byte b (and_parts (begins_name b) (list_all continues_name bs) h).0

number_form_begins : (w : List ℕ) → has_number_form w ≡ true → BeginsNoMark w
number_form_begins [] h = absurd (false≢true h)
number_form_begins (b ∷ bs) h = digit_byte b (and_parts (is_ascii_digit b) (list_all continues_number bs) h).0

pub name_begins : {w : List ℕ} → IsName w → BeginsNoMark w
name_begins {w} n = name_form_begins w n.form

pub number_begins : {w : List ℕ} {n : ℕ} → IsNumber w n → BeginsNoMark w
number_begins {w} h = number_form_begins w (constant_form h)
