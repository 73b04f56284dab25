-- Integer constants are told by their bytes.
use Rattle.std.proofs.Common.{◌≡◌, ℕ, ◌<◌, ◌≤◌, Bool, true, false, cond, ◌&&◌, List, [], ◌∷◌, ◌++◌, length, take, drop, Option, Some, None, refl, sym}
use Rattle.std.proofs.Common.{◌∙◌, subst, arith}
use Rattle.std.specs.Prelude.{nat_le, nat_lt, ◌==◌}
use Rattle.std.specs.Char.{is_ascii_digit, digit_value}
use Rattle.std.specs.Int.{is_in_range}
use Rattle.std.specs.List.{list_all, prefix_len}
use Rattle.std.specs.Str.Parse.{AllDigits, IsNumeral, digits_value}
use Rattle.std.proofs.lemmas.Bool.{leb-true, le-leb, ltb-true, lt-ltb, eqb-true, and_parts, and_from}
use Rattle.std.proofs.lemmas.Bool.Decides.{nat_tests}
use Rattle.std.proofs.lemmas.List.{take-append-drop, take_at}
use Rattle.std.proofs.lemmas.List.Sums.{prefix_len-le-length}
use Rattle.cilk_lex_tokens.specs.Byte.{continues_number, is_x}
use Rattle.cilk_lex_tokens.specs.Lexing.{EndsBefore, of_number, bad_number}
use Rattle.cilk_lex.specs.Sight.{is_numeral, valued, number_in, number_shown, number_sight}
use Rattle.cilk_lex_tokens.specs.Spelling.{IsNumber, zero_alone, decimal_digits, octal_digits, hexadecimal_digits, int_max, has_number_form}
use Rattle.cilk_lex.proofs.Runs.{run_passes, run_ends, run_length, run_of}
use Rattle.cilk_lex.proofs.Shows.{Shows}

-- ---- digits

digit_is : (b : ℕ) → digit_value b < 10 → is_ascii_digit b ≡ true
digit_is b h = grind (arith, nat_tests)

digit_continues_16 : (b : ℕ) → digit_value b < 16 → continues_number b ≡ true
digit_continues_16 b h = grind (arith, nat_tests)

pub digit_continues : (b : ℕ) → is_ascii_digit b ≡ true → continues_number b ≡ true
digit_continues b h = grind (arith, nat_tests)

x_continues : (b : ℕ) → is_x b ≡ true → continues_number b ≡ true
x_continues b h = grind (arith, nat_tests)

no_x : (b : ℕ) → digit_value b < 8 → is_x b ≡ false
no_x b h = grind (arith, nat_tests)

above_zero : (b : ℕ) → digit_value b < 10 → (b == 48) ≡ false → is_in_range 49 57 b ≡ true
above_zero b h e = grind (arith, nat_tests)

not_zero : (b : ℕ) → is_in_range 49 57 b ≡ true → (b == 48) ≡ false
not_zero b h = grind (arith, nat_tests)

digits_continue : (radix : ℕ) (bs : List ℕ) → radix ≤ 16 → AllDigits radix bs → list_all continues_number bs ≡ true
digits_continue radix [] l d = refl
digits_continue radix (b ∷ bs) l d = and_from (continues_number b) _ (digit_continues_16 b (omega (arith, l, d.0))) (digits_continue radix bs l d.1)

-- ---- the form of a constant

pub number_le : {w : List ℕ} {n : ℕ} → IsNumber w n → n ≤ int_max
number_le (zero_alone e z) = rw z (omega arith)
number_le (decimal_digits e r d v l) = l
number_le (octal_digits e d v l) = l
number_le (hexadecimal_digits e h d v l) = l

decimal_form : (w bs : List ℕ) (b : ℕ) → w ≡ b ∷ bs → AllDigits 10 w → has_number_form w ≡ true
decimal_form w bs b e d =
    let p : AllDigits 10 (b ∷ bs) = subst (λ x. AllDigits 10 x) e d in
    rw e (and_from (is_ascii_digit b) _ (digit_is b p.0) (digits_continue 10 bs (omega arith) p.1))

pub constant_form : {w : List ℕ} {n : ℕ} → IsNumber w n → has_number_form w ≡ true
constant_form (zero_alone e z) = rw e refl
constant_form (decimal_digits e r d v l) = decimal_form _ _ _ e d
constant_form (octal_digits {bs = bs} e d v l) = rw e (digits_continue 8 bs (omega arith) d.1)
constant_form (hexadecimal_digits {bs = bs} {x = x} e h d v l) =
    rw e (and_from (continues_number x) _ (x_continues x h) (digits_continue 16 bs (omega arith) d.1))

-- ---- numerals, computed

all_low : (radix : ℕ) (ds : List ℕ) → AllDigits radix ds → list_all (λ c. nat_lt (digit_value c) radix) ds ≡ true
all_low radix [] d = refl
all_low radix (c ∷ cs) d = and_from (nat_lt (digit_value c) radix) _ (lt-ltb (digit_value c) radix d.0) (all_low radix cs d.1)

low_all : (radix : ℕ) (ds : List ℕ) → list_all (λ c. nat_lt (digit_value c) radix) ds ≡ true → AllDigits radix ds
low_all radix [] h = tt
low_all radix (c ∷ cs) h = let p = and_parts (nat_lt (digit_value c) radix) _ h in (ltb-true (digit_value c) radix p.0, low_all radix cs p.1)

pub numeral_true : (radix : ℕ) (ds : List ℕ) → IsNumeral radix ds → is_numeral radix ds ≡ true
unfolding is_numeral
numeral_true radix [] d = absurd (omega (arith, d.0))
numeral_true radix (c ∷ cs) d = all_low radix (c ∷ cs) d.1

pub true_numeral : (radix : ℕ) (ds : List ℕ) → is_numeral radix ds ≡ true → IsNumeral radix ds
unfolding is_numeral
true_numeral radix [] h = absurd cc
true_numeral radix (c ∷ cs) h = (omega arith, low_all radix (c ∷ cs) h)

valued_seen : (radix : ℕ) (ds : List ℕ) (n : ℕ) → IsNumeral radix ds → digits_value radix ds ≡ n → n ≤ int_max → valued radix ds ≡ Some n
unfolding valued
valued_seen radix ds n d v l = rw (numeral_true radix ds d, v, le-leb n int_max l) refl

record IsValue (radix : ℕ) (ds : List ℕ) (n : ℕ) : Type 0 where
  numeral : IsNumeral radix ds
  value : digits_value radix ds ≡ n
  small : n ≤ int_max

valued_is : (radix : ℕ) (ds : List ℕ) (n : ℕ) → valued radix ds ≡ Some n → IsValue radix ds n
unfolding valued
valued_is radix ds n e = at (is_numeral radix ds && nat_le (digits_value radix ds) int_max) refl e
  where
    at : (c : Bool) → (is_numeral radix ds && nat_le (digits_value radix ds) int_max) ≡ c
        → cond c (Some (digits_value radix ds)) None ≡ Some n → IsValue radix ds n
    at false h f = absurd cc
    at true h f =
        let p = and_parts (is_numeral radix ds) _ h in
        let v : digits_value radix ds ≡ n = cc in
        record { numeral = true_numeral radix ds p.0; value = v; small = subst (λ k. k ≤ int_max) v (leb-true (digits_value radix ds) int_max p.1) }

-- ---- constants, computed

ten_seen : (w bs : List ℕ) (b n : ℕ) → w ≡ b ∷ bs → is_in_range 49 57 b ≡ true → valued 10 w ≡ Some n → number_in w ≡ Some n
unfolding number_in
ten_seen w [] b n e r v = rw e (rw e at v)
ten_seen w (c ∷ cs) b n e r v = rw (e, not_zero b r) (rw e at v)

eight_seen : (bs : List ℕ) (n : ℕ) → IsNumeral 8 bs → valued 8 bs ≡ Some n → number_in (48 ∷ bs) ≡ Some n
unfolding number_in
eight_seen [] n d v = absurd (omega (arith, d.0))
eight_seen (b ∷ bs) n d v = rw (no_x b d.1.0) v

pub number_seen : {w : List ℕ} {n : ℕ} → IsNumber w n → number_in w ≡ Some n
unfolding number_in valued is_numeral
number_seen (zero_alone e z) = rw (e, z) refl
number_seen {w} {n} (decimal_digits {bs = bs} {b = b} e r d v l) = ten_seen w bs b n e r (valued_seen 10 w n (rw e (omega arith), d) v l)
number_seen {w} {n} (octal_digits {bs = bs} e d v l) = rw e (eight_seen bs n d (valued_seen 8 bs n d v l))
number_seen {w} {n} (hexadecimal_digits {bs = bs} {x = x} e h d v l) = rw (e, h) (valued_seen 16 bs n d v l)

ten_is : (b : ℕ) (bs : List ℕ) (n : ℕ) → (b == 48) ≡ false → IsValue 10 (b ∷ bs) n → IsNumber (b ∷ bs) n
ten_is b bs n e v = decimal_digits refl (above_zero b v.numeral.1.0 e) v.numeral.1 v.value v.small

one_is : (b n : ℕ) (c : Bool) → (b == 48) ≡ c → IsValue 10 (b ∷ []) n → IsNumber (b ∷ []) n
one_is b n false e v = ten_is b [] n e v
one_is b n true e v = let z : b ≡ 48 = eqb-true b 48 e in zero_alone (rw z refl) (sym v.value ∙ rw z refl)

pub number_is : (w : List ℕ) (n : ℕ) → number_in w ≡ Some n → IsNumber w n
unfolding number_in
number_is [] n e = absurd cc
number_is (b ∷ []) n e = one_is b n (b == 48) refl (valued_is 10 (b ∷ []) n e)
number_is (a ∷ b ∷ bs) n e = at (a == 48) refl (is_x b) refl e
  where
    at : (c : Bool) → (a == 48) ≡ c → (d : Bool) → is_x b ≡ d
        → cond c (cond d (valued 16 bs) (valued 8 (b ∷ bs))) (valued 10 (a ∷ b ∷ bs)) ≡ Some n → IsNumber (a ∷ b ∷ bs) n
    at true z true x f = let v = valued_is 16 bs n f in hexadecimal_digits {bs = bs} {x = b} (rw (eqb-true a 48 z) refl) x v.numeral v.value v.small
    at true z false x f = let v = valued_is 8 (b ∷ bs) n f in octal_digits {bs = b ∷ bs} (rw (eqb-true a 48 z) refl) v.numeral v.value v.small
    at false z d x f = ten_is a (b ∷ bs) n z (valued_is 10 (a ∷ b ∷ bs) n f)

-- ---- the front of a text that begins with a digit

pub number_passes : (w : List ℕ) → has_number_form w ≡ true → list_all continues_number w ≡ true
number_passes [] h = absurd cc
number_passes (b ∷ bs) h =
    let p = and_parts (is_ascii_digit b) (list_all continues_number bs) h in
    and_from (continues_number b) _ (digit_continues b p.0) p.1

pub number_form : (b : ℕ) (bs : List ℕ) → is_ascii_digit b ≡ true → has_number_form (take (prefix_len continues_number (b ∷ bs)) (b ∷ bs)) ≡ true
number_form b bs h =
    rw (run_of continues_number (b ∷ bs) b bs refl (digit_continues b h) _ refl) (and_from (is_ascii_digit b) _ h (run_passes continues_number bs))

pub number_sees : (fresh : Bool) (at b : ℕ) (bs : List ℕ) → is_ascii_digit b ≡ true → Shows fresh at (b ∷ bs) (number_sight at (b ∷ bs))
unfolding number_sight number_shown
number_sees fresh at b bs h = is (number_in (take (prefix_len continues_number (b ∷ bs)) (b ∷ bs))) refl
  where
    is : (r : Option ℕ) → number_in (take (prefix_len continues_number (b ∷ bs)) (b ∷ bs)) ≡ r
        → Shows fresh at (b ∷ bs) (number_shown at (prefix_len continues_number (b ∷ bs)) r)
    is (Some v) e = (prefix_len-le-length continues_number (b ∷ bs), of_number v (number_is _ v e) (run_ends continues_number (b ∷ bs)))
    is None e =
        bad_number (take _ (b ∷ bs)) (drop _ (b ∷ bs)) (number_form b bs h) (run_ends continues_number (b ∷ bs))
        (λ v i. let f : None ≡ Some v = sym e ∙ number_seen i in absurd cc) (sym (take-append-drop _ (b ∷ bs))) refl

-- of a text that goes on with no byte of a number
pub number_sight_of : (at : ℕ) (w rest : List ℕ) (r : Option ℕ) → has_number_form w ≡ true → EndsBefore continues_number rest
    → number_in w ≡ r → number_sight at (w ++ rest) ≡ number_shown at (length w) r
unfolding number_sight
number_sight_of at w rest r h e i = rw (run_length continues_number w rest (number_passes w h) e, take_at w rest (length w) refl, i) refl

pub no_number_in : (w : List ℕ) → ((n : ℕ) → IsNumber w n → ⊥) → number_in w ≡ None
no_number_in w h = is (number_in w) refl
  where
    is : (r : Option ℕ) → number_in w ≡ r → number_in w ≡ None
    is (Some n) e = absurd (h n (number_is w n e))
    is None e = e
