-- What all marks have in common, by their bytes, and the longest one at the front of a text.
use Rattle.std.proofs.Common.{◌≡◌, ◌≢◌, ℕ, zero, suc, codes, ◌<◌, ◌≤◌, Bool, true, false, not, ◌&&◌, ◌||◌, ltb, leb, List, [], ◌∷◌, ◌++◌, length}
use Rattle.std.proofs.Common.{take, drop, Some, None, refl, sym, ap, subst, ◌∙◌, ◌⊎◌, inl, inr, arith}
use Rattle.std.proofs.lemmas.Option.{same_Some}
use Rattle.std.specs.Prelude.{IsAscii, bytes_eq, nat_le, ◌==◌}
use Rattle.std.specs.Char.{is_ascii_digit}
use Rattle.std.specs.List.{list_all}
use Rattle.std.proofs.lemmas.List.{take_at, take-append-drop, length-append, length-take-le}
use Rattle.std.proofs.lemmas.Bool.{cases_lt, ltb-true, leb-true, leb-false, and_parts, not-true, both_ways}
use Rattle.std.proofs.lemmas.Slice.Eq.{bytes_eq-Decides}
use Rattle.cilk_lex_tokens.specs.declared.mark.Mark.{Mark}
use Rattle.cilk_lex_tokens.specs.declared.mark.Mark.TheVariants as sign
use Rattle.cilk_lex_tokens.specs.declared.fault.LexFault.TheVariants.{BadByte}
use Rattle.cilk_lex_tokens.specs.Byte.{is_blank, begins_name}
use Rattle.cilk_lex_tokens.specs.Lexeme.{mark}
use Rattle.cilk_lex_tokens.specs.Lexing.{IsLongest, of_mark, Amiss, bad_byte}
use Rattle.cilk_lex.specs.Sight.{found, amiss, all_marks, operator_marks, double_marks, assigning_marks, mark_among, mark_in, mark_shown}
use Rattle.cilk_lex.specs.Sight.{mark_sight, opens_comment}
use Rattle.cilk_lex_tokens.specs.Spelling.{mark_spelling}
use Rattle.cilk_lex.proofs.Runs.{run_ascii}
use Rattle.cilk_lex.proofs.Shows.{Shows}

-- ---- tests that the bytes of every mark pass

unfoldable pub is_low : ℕ → Bool
is_low b = ltb b 128

-- blanks, names, numbers, text literals and lines that include a header begin with other bytes
abbrev pub begins_other : ℕ → Bool
begins_other b = is_blank b || (begins_name b || (is_ascii_digit b || (b == 34 || b == 35)))

passes : List ℕ → Bool
passes [] = false
passes (b ∷ bs) = not (begins_other b) && (not (opens_comment (b ∷ bs)) && (list_all is_low (b ∷ bs) && leb (length bs) 2))

passed : (m : Mark) → passes (mark_spelling m) ≡ true
unfolding passes is_low opens_comment
passed sign.OpenParenthesis = refl
passed sign.CloseParenthesis = refl
passed sign.OpenBrace = refl
passed sign.CloseBrace = refl
passed sign.Semicolon = refl
passed sign.Comma = refl
passed sign.Assign = refl
passed sign.Plus = refl
passed sign.Minus = refl
passed sign.Star = refl
passed sign.OpenBracket = refl
passed sign.CloseBracket = refl
passed sign.Question = refl
passed sign.Colon = refl
passed sign.Slash = refl
passed sign.Percent = refl
passed sign.Ampersand = refl
passed sign.Bar = refl
passed sign.Caret = refl
passed sign.Tilde = refl
passed sign.Exclamation = refl
passed sign.Less = refl
passed sign.Greater = refl
passed sign.ShiftLeft = refl
passed sign.ShiftRight = refl
passed sign.LessOrEqual = refl
passed sign.GreaterOrEqual = refl
passed sign.Equal = refl
passed sign.NotEqual = refl
passed sign.And = refl
passed sign.Or = refl
passed sign.Increment = refl
passed sign.Decrement = refl
passed sign.AddAssign = refl
passed sign.SubtractAssign = refl
passed sign.MultiplyAssign = refl
passed sign.DivideAssign = refl
passed sign.RemainderAssign = refl
passed sign.ShiftLeftAssign = refl
passed sign.ShiftRightAssign = refl
passed sign.BitAndAssign = refl
passed sign.BitXorAssign = refl
passed sign.BitOrAssign = refl

-- of the bytes w: there are one to three, all ASCII, the first begins nothing but a mark, and they are no comment
pub record IsMarkForm (w : List ℕ) : Type 0 where
  pub some : 0 < length w
  pub short : length w ≤ 3
  pub ascii : IsAscii w
  pub head : (b : ℕ) (bs : List ℕ) → w ≡ b ∷ bs → begins_other b ≡ false
  pub no_comment : opens_comment w ≡ false

pub low : (b : ℕ) → is_low b ≡ true → b < 128
unfolding is_low
low b e = ltb-true b 128 e

form_of : (w : List ℕ) → passes w ≡ true → IsMarkForm w
unfolding passes
form_of [] e = absurd cc
form_of (b ∷ bs) e =
    let p = and_parts (not (begins_other b)) (not (opens_comment (b ∷ bs)) && (list_all is_low (b ∷ bs) && leb (length bs) 2)) e in
    let o = and_parts (not (opens_comment (b ∷ bs))) (list_all is_low (b ∷ bs) && leb (length bs) 2) p.1 in
    let q = and_parts (list_all is_low (b ∷ bs)) (leb (length bs) 2) o.1 in
    let few : length bs ≤ 2 = leb-true (length bs) 2 q.1 in
    record {
      some = omega arith;
      short = omega arith;
      ascii = run_ascii is_low low (b ∷ bs) q.0;
      head = λ c cs h. let same : b ≡ c = cc in rw (← same) (not-true (begins_other b) p.0);
      no_comment = not-true (opens_comment (b ∷ bs)) o.0;
    }

pub mark_form : (m : Mark) → IsMarkForm (mark_spelling m)
mark_form m = form_of (mark_spelling m) (passed m)

pub five_false : (a b c d e : Bool) → (a || (b || (c || (d || e)))) ≡ false → (a ≡ false) × (b ≡ false) × (c ≡ false) × (d ≡ false) × (e ≡ false)
five_false false false false false false h = (refl, refl, refl, refl, refl)
five_false true b c d e h = absurd cc
five_false false true c d e h = absurd cc
five_false false false true d e h = absurd cc
five_false false false false true e h = absurd cc
five_false false false false false true h = absurd cc

-- ---- a mark is told by its bytes

pub mark_again : (m : Mark) → mark_among all_marks (mark_spelling m) ≡ Some m
unfolding mark_among all_marks operator_marks double_marks assigning_marks
mark_again sign.OpenParenthesis = refl
mark_again sign.CloseParenthesis = refl
mark_again sign.OpenBrace = refl
mark_again sign.CloseBrace = refl
mark_again sign.Semicolon = refl
mark_again sign.Comma = refl
mark_again sign.Assign = refl
mark_again sign.Plus = refl
mark_again sign.Minus = refl
mark_again sign.Star = refl
mark_again sign.OpenBracket = refl
mark_again sign.CloseBracket = refl
mark_again sign.Question = refl
mark_again sign.Colon = refl
mark_again sign.Slash = refl
mark_again sign.Percent = refl
mark_again sign.Ampersand = refl
mark_again sign.Bar = refl
mark_again sign.Caret = refl
mark_again sign.Tilde = refl
mark_again sign.Exclamation = refl
mark_again sign.Less = refl
mark_again sign.Greater = refl
mark_again sign.ShiftLeft = refl
mark_again sign.ShiftRight = refl
mark_again sign.LessOrEqual = refl
mark_again sign.GreaterOrEqual = refl
mark_again sign.Equal = refl
mark_again sign.NotEqual = refl
mark_again sign.And = refl
mark_again sign.Or = refl
mark_again sign.Increment = refl
mark_again sign.Decrement = refl
mark_again sign.AddAssign = refl
mark_again sign.SubtractAssign = refl
mark_again sign.MultiplyAssign = refl
mark_again sign.DivideAssign = refl
mark_again sign.RemainderAssign = refl
mark_again sign.ShiftLeftAssign = refl
mark_again sign.ShiftRightAssign = refl
mark_again sign.BitAndAssign = refl
mark_again sign.BitXorAssign = refl
mark_again sign.BitOrAssign = refl

pub same_mark : (m n : Mark) → mark_spelling m ≡ mark_spelling n → m ≡ n
same_mark m n e = same_Some m n (sym (mark_again m) ∙ ap (mark_among all_marks) e ∙ mark_again n)

-- ---- the longest mark at the front

-- the first k bytes of the text, if there are so many, are no mark
abbrev pub NoneOf : List ℕ → ℕ → Type 0
NoneOf text k = k ≤ length text → (m : Mark) → take k text ≢ mark_spelling m

pub none_above_3 : (text : List ℕ) (k : ℕ) → 3 < k → k ≤ 3 → NoneOf text k
none_above_3 text k l h = absurd (omega (arith, l, h))

pub none_above_2 : (text : List ℕ) → NoneOf text 3 → (k : ℕ) → 2 < k → k ≤ 3 → NoneOf text k
none_above_2 text three k l h = let e : 3 ≡ k = omega arith in subst (λ i. NoneOf text i) e three

none_at_2 : (text : List ℕ) → NoneOf text 2 → NoneOf text 3 → (k : ℕ) → 1 < k → k ≤ 3 → (2 < k) ⊎ (k ≤ 2) → NoneOf text k
none_at_2 text two three k l h (inl m) = none_above_2 text three k m h
none_at_2 text two three k l h (inr m) = let e : 2 ≡ k = omega arith in subst (λ i. NoneOf text i) e two

pub none_above_1 : (text : List ℕ) → NoneOf text 2 → NoneOf text 3 → (k : ℕ) → 1 < k → k ≤ 3 → NoneOf text k
none_above_1 text two three k l h = none_at_2 text two three k l h (cases_lt 2 k)

none_at_1 : (text : List ℕ) → NoneOf text 1 → NoneOf text 2 → NoneOf text 3 → (k : ℕ) → 0 < k → k ≤ 3 → (1 < k) ⊎ (k ≤ 1) → NoneOf text k
none_at_1 text one two three k l h (inl m) = none_above_1 text two three k m h
none_at_1 text one two three k l h (inr m) = let e : 1 ≡ k = omega arith in subst (λ i. NoneOf text i) e one

-- no mark is at the front where none takes one, two or three bytes
pub no_mark : (text : List ℕ) → NoneOf text 1 → NoneOf text 2 → NoneOf text 3 → (m : Mark) (rest : List ℕ) → text ≢ mark_spelling m ++ rest
no_mark text one two three m rest e =
    let k = length (mark_spelling m) in
    let f = mark_form m in
    none_at_1 text one two three k f.some f.short (cases_lt 1 k) (omega (arith, ap length e, length-append (mark_spelling m) rest)) m
    (ap (λ t. take k t) e ∙ take_at (mark_spelling m) rest k refl)

longer_or_not : (text : List ℕ) (n k : ℕ) (j : Mark) (more : List ℕ) → ((i : ℕ) → n < i → i ≤ 3 → NoneOf text i)
    → text ≡ mark_spelling j ++ more → k ≡ length (mark_spelling j) → (n < k) ⊎ (k ≤ n) → k ≤ n
longer_or_not text n k j more none e f (inl m) =
    absurd
    (none k m (omega (arith, f, (mark_form j).short)) (omega (arith, f, ap length e, length-append (mark_spelling j) more)) j
    (ap (λ t. take k t) e ∙ take_at (mark_spelling j) more k (sym f)))
longer_or_not text n k j more none e f (inr m) = m

no_other : (text : List ℕ) → opens_comment text ≡ false → (more : List ℕ) → text ≢ codes "/*" ++ more
unfolding opens_comment
no_other text h more e = both_ways true (sym (ap opens_comment e) ∙ h) refl

-- the mark of the first n bytes is the longest, where none takes more
pub longest : (text : List ℕ) (n : ℕ) (m : Mark) → opens_comment text ≡ false → take n text ≡ mark_spelling m → length (mark_spelling m) ≡ n
    → ((i : ℕ) → n < i → i ≤ 3 → NoneOf text i) → IsLongest m (drop n text)
longest text n m c e l none =
    let parts : text ≡ mark_spelling m ++ drop n text = sym (take-append-drop n text) ∙ ap (λ t. t ++ drop n text) e in
    record {
      no_longer = λ j more h.
          let k = length (mark_spelling j) in
          subst (λ i. k ≤ i) (sym l) (longer_or_not text n k j more none (parts ∙ h) refl (cases_lt n k));
      no_comment = λ more h. no_other text c more (parts ∙ h);
    }

-- ---- what is computed

abbrev Among : List Mark → List ℕ → Type 0
Among ms w = ((m : Mark) × (w ≡ mark_spelling m) × (mark_among ms w ≡ Some m)) ⊎ (mark_among ms w ≡ None)

among : (ms : List Mark) (w : List ℕ) → Among ms w
unfolding mark_among
among [] w = inr refl
among (m ∷ ms) w = at_mark (bytes_eq w (mark_spelling m)) refl (among ms w)
  where
    at_mark : (c : Bool) → bytes_eq w (mark_spelling m) ≡ c → Among ms w → Among (m ∷ ms) w
    at_mark true e i = inl (m, (bytes_eq-Decides w (mark_spelling m)).0 e, rw e refl)
    at_mark false e (inl i) = inl (i.0, i.1, rw e i.2)
    at_mark false e (inr i) = inr (rw e i)

pub mark_is : (w : List ℕ) (m : Mark) → w ≡ mark_spelling m → mark_among all_marks w ≡ Some m
mark_is w m e = ap (mark_among all_marks) e ∙ mark_again m

pub no_mark_is : (w : List ℕ) → ((m : Mark) → w ≢ mark_spelling m) → mark_among all_marks w ≡ None
no_mark_is w h = is (among all_marks w)
  where
    is : Among all_marks w → mark_among all_marks w ≡ None
    is (inl i) = absurd (h i.0 i.1)
    is (inr i) = i

-- the first n bytes are a mark, or none
abbrev pub MarkOr : ℕ → List ℕ → Type 0
MarkOr n text = ((m : Mark) × (n ≤ length text) × (take n text ≡ mark_spelling m) × (mark_in n text ≡ Some m)) ⊎ (NoneOf text n × (mark_in n text ≡ None))

pub mark_or : (n : ℕ) (text : List ℕ) → MarkOr n text
unfolding mark_in
mark_or n text = at_length (nat_le n (length text)) refl (among all_marks (take n text))
  where
    at_length : (c : Bool) → nat_le n (length text) ≡ c → Among all_marks (take n text) → MarkOr n text
    at_length true e (inl i) = inl (i.0, leb-true n (length text) e, i.1, rw e i.2)
    at_length true e (inr i) = inr (λ l m h. let f : Some m ≡ None = sym (mark_is (take n text) m h) ∙ i in absurd cc, rw e i)
    at_length false e i = inr (λ l m h. absurd (omega (arith, leb-false n (length text) e, l)), rw e refl)

-- ---- the rule of marks finds what is computed, and the other way round

module _ (fresh : Bool) (at b : ℕ) (bs : List ℕ) (other : begins_other b ≡ false) (no_comment : opens_comment (b ∷ bs) ≡ false) where
  nothing_there : NoneOf (b ∷ bs) 1 → NoneOf (b ∷ bs) 2 → NoneOf (b ∷ bs) 3 → Amiss fresh at (b ∷ bs) (BadByte at)
  nothing_there one two three =
      let f = five_false (is_blank b) (begins_name b) (is_ascii_digit b) (b == 34) (b == 35) other in
      bad_byte bs
      (record {
        no_blank = f.0;
        no_name = f.1;
        no_number = f.2;
        no_quote = f.3;
        no_directive = f.4;
        no_mark = no_mark (b ∷ bs) one two three;
      }) refl refl

  mark_found : (n : ℕ) (m : Mark) → n ≤ length (b ∷ bs) → take n (b ∷ bs) ≡ mark_spelling m → ((i : ℕ) → n < i → i ≤ 3 → NoneOf (b ∷ bs) i)
      → Shows fresh at (b ∷ bs) (found n (Some (mark m)))
  mark_found n m l e none = (l, of_mark m e (longest (b ∷ bs) n m no_comment e (ap length (sym e) ∙ length-take-le n (b ∷ bs) l) none))

  pub mark_sees : Shows fresh at (b ∷ bs) (mark_sight at (b ∷ bs))
  unfolding mark_sight mark_shown
  mark_sees = at_three (mark_or 3 (b ∷ bs)) (mark_or 2 (b ∷ bs)) (mark_or 1 (b ∷ bs))
    where
      at_three : MarkOr 3 (b ∷ bs) → MarkOr 2 (b ∷ bs) → MarkOr 1 (b ∷ bs)
          → Shows fresh at (b ∷ bs)
          (mark_shown 3 (mark_in 3 (b ∷ bs)) (mark_shown 2 (mark_in 2 (b ∷ bs)) (mark_shown 1 (mark_in 1 (b ∷ bs)) (amiss (BadByte at)))))
      at_three (inl i) two one = rw (i.3) (mark_found 3 i.0 i.1 i.2 (none_above_3 (b ∷ bs)))
      at_three (inr h) (inl i) one = rw (h.1, i.3) (mark_found 2 i.0 i.1 i.2 (none_above_2 (b ∷ bs) h.0))
      at_three (inr h) (inr j) (inl i) = rw (h.1, j.1, i.3) (mark_found 1 i.0 i.1 i.2 (none_above_1 (b ∷ bs) j.0 h.0))
      at_three (inr h) (inr j) (inr i) = rw (h.1, j.1, i.1) (nothing_there i.0 j.0 h.0)

few : (k : ℕ) → 0 < k → k ≤ 3 → (k ≡ 1) ⊎ ((k ≡ 2) ⊎ (k ≡ 3))
few zero p q = absurd (omega (arith, p))
few (suc zero) p q = inl refl
few (suc (suc zero)) p q = inr (inl refl)
few (suc (suc (suc k))) p q = inr (inr (omega (arith, q)))

module _ (at : ℕ) (m : Mark) (rest : List ℕ) (l : IsLongest m rest) where
  -- the bytes of the mark, and the text
  abbrev w : List ℕ
  w = mark_spelling m

  abbrev text : List ℕ
  text = mark_spelling m ++ rest

  above : (n : ℕ) → length w < n → mark_in n text ≡ None
  above n g = is (mark_or n text)
    where
      is : MarkOr n text → mark_in n text ≡ None
      is (inl i) =
          absurd
          (omega (
            arith,
            g,
            l.no_longer i.0 (drop n text) (sym (take-append-drop n text) ∙ ap (λ t. t ++ drop n text) i.2),
            ap length i.2,
            length-take-le n text i.1,
          ))
      is (inr i) = i.1

  there : (n : ℕ) → length w ≡ n → mark_in n text ≡ Some m
  there n e = is (mark_or n text)
    where
      is : MarkOr n text → mark_in n text ≡ Some m
      is (inl i) = i.3 ∙ ap (λ (x : Mark). Some x) (same_mark i.0 m (sym i.2 ∙ take_at w rest n e))
      is (inr i) = absurd (i.0 (omega (arith, e, length-append w rest)) m (take_at w rest n e))

  pub mark_seen : mark_sight at text ≡ found (length w) (Some (mark m))
  unfolding mark_sight mark_shown
  mark_seen = by_length (few (length w) (mark_form m).some (mark_form m).short)
    where
      by_length : (length w ≡ 1) ⊎ ((length w ≡ 2) ⊎ (length w ≡ 3))
          → mark_shown 3 (mark_in 3 text) (mark_shown 2 (mark_in 2 text) (mark_shown 1 (mark_in 1 text) (amiss (BadByte at))))
          ≡ found (length w) (Some (mark m))
      by_length (inl e) = rw (above 3 (omega (arith, e)), above 2 (omega (arith, e)), there 1 e, e) refl
      by_length (inr (inl e)) = rw (above 3 (omega (arith, e)), there 2 e, e) refl
      by_length (inr (inr e)) = rw (there 3 e, e) refl

pub no_mark_seen : (at : ℕ) (text : List ℕ) → ((m : Mark) (more : List ℕ) → text ≢ mark_spelling m ++ more) → mark_sight at text ≡ amiss (BadByte at)
unfolding mark_sight mark_shown
no_mark_seen at text none = rw (no_mark_at 3, no_mark_at 2, no_mark_at 1) refl
  where
    is : (n : ℕ) → MarkOr n text → mark_in n text ≡ None
    is n (inl i) = absurd (none i.0 (drop n text) (sym (take-append-drop n text) ∙ ap (λ t. t ++ drop n text) i.2))
    is n (inr i) = i.1

    no_mark_at : (n : ℕ) → mark_in n text ≡ None
    no_mark_at n = is n (mark_or n text)
