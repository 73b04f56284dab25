-- Each number is spelled in one way.
use Rattle.std.proofs.Common.{◌≡◌, ℕ, ◌^◌, ◌<◌, ◌≤◌, Bool, true, false, cond, ◌&&◌, List, [], ◌∷◌, length, get_or, Some, None, decimal, ◌⊎◌, refl}
use Rattle.std.proofs.Common.{sym, ap, ◌∙◌, arith, inl, inr}
use Rattle.std.specs.Prelude.{nat_le}
use Rattle.std.specs.Char.{is_ascii_digit}
use Rattle.std.specs.Int.{is_in_range}
use Rattle.std.specs.Str.{all_ascii_digits}
use Rattle.std.specs.Str.Parse.{digits_value}
use Rattle.std.proofs.lemmas.Bool.{leb-true, le-leb, cases_lt, and_parts, and_from}
use Rattle.std.proofs.lemmas.Bool.Decides.{nat_tests}
use Rattle.std.proofs.lemmas.Str.Parse.{IsNumeralModel, numerals_by_value, tells_all_ascii_digits}
use Rattle.std.proofs.lemmas.Fmt.{decimal_digit, first_decimal, decimal_nonempty, digits_decimal, digits_value-decimal, decimal-digits_value}
use Rattle.cilk_log.specs.Reading.{is_decimal, number_in}

own : IsNumeralModel (λ ds. all_ascii_digits ds ≡ true) (digits_value 10)
own = numerals_by_value _ tells_all_ascii_digits

record HasForm (ds : List ℕ) : Type 0 where
  digits : all_ascii_digits ds ≡ true
  some : 0 < length ds
  zero_alone : get_or ds 0 0 ≡ 48 → length ds ≡ 1

leading : (b : ℕ) → is_in_range 49 57 b ≡ true → is_ascii_digit b ≡ true
leading b h = grind (arith, nat_tests)

not_zero : (b : ℕ) → is_in_range 49 57 b ≡ true → b ≡ 48 → ⊥
not_zero b h e = grind (arith, nat_tests)

above_zero : (b : ℕ) → is_ascii_digit b ≡ true → (b ≡ 48 → ⊥) → is_in_range 49 57 b ≡ true
above_zero b h e = grind (arith, nat_tests)

form_of : (ds : List ℕ) → is_decimal ds ≡ true → HasForm ds
form_of [] e = absurd cc
form_of (b ∷ []) e = record { digits = and_from (is_ascii_digit b) true e refl; some = omega arith; zero_alone = λ z. refl }
form_of (b ∷ c ∷ bs) e =
    let p = and_parts (is_in_range 49 57 b) (all_ascii_digits (c ∷ bs)) e in
    record {
      digits = and_from (is_ascii_digit b) _ (leading b p.0) p.1;
      some = omega arith;
      zero_alone = λ z. absurd (not_zero b p.0 z);
    }

of_form : (ds : List ℕ) → HasForm ds → is_decimal ds ≡ true
of_form [] f = absurd (omega (arith, f.some))
of_form (b ∷ []) f = (and_parts (is_ascii_digit b) true f.digits).0
of_form (b ∷ c ∷ bs) f =
    let p = and_parts (is_ascii_digit b) (all_ascii_digits (c ∷ bs)) f.digits in
    and_from (is_in_range 49 57 b) _ (above_zero b p.0 (λ z. let one : length (b ∷ c ∷ bs) ≡ 1 = f.zero_alone z in omega (arith, one))) p.1

pub decimal_digits : (n : ℕ) → n < 2 ^ 64 → all_ascii_digits (decimal n) ≡ true
decimal_digits n h = digits_decimal own n h

decimal_form : (n : ℕ) → n < 2 ^ 64 → HasForm (decimal n)
decimal_form n h = record { digits = decimal_digits n h; some = decimal_nonempty n h; zero_alone = alone (cases_lt n 10) }
  where
    alone : (n < 10) ⊎ (10 ≤ n) → get_or (decimal n) 0 0 ≡ 48 → length (decimal n) ≡ 1
    alone (inl l) z = ap length (decimal_digit n l)
    alone (inr g) z = absurd (omega (arith, first_decimal n (omega arith) h, z))

pub number_written : (most n : ℕ) → n ≤ most → n < 2 ^ 64 → number_in most (decimal n) ≡ Some n
number_written most n l h = rw (of_form (decimal n) (decimal_form n h), digits_value-decimal own n h, le-leb n most l) refl

pub record Spells (most : ℕ) (text : List ℕ) (n : ℕ) : Type 0 where
  pub spelling : text ≡ decimal n
  pub small : n ≤ most

spelled_at : (most : ℕ) (text : List ℕ) (n : ℕ) → most < 2 ^ 64 → (c : Bool) → (is_decimal text && nat_le (digits_value 10 text) most) ≡ c
    → cond c (Some (digits_value 10 text)) None ≡ Some n → Spells most text n
spelled_at most text n h false e f = absurd cc
spelled_at most text n h true e f =
    let p = and_parts (is_decimal text) _ e in
    let form = form_of text p.0 in
    let small : digits_value 10 text ≤ most = leb-true (digits_value 10 text) most p.1 in
    let v : digits_value 10 text ≡ n = cc in
    let same : decimal (digits_value 10 text) ≡ text = decimal-digits_value own text form.digits form.some form.zero_alone (omega arith) in
    record { spelling = sym same ∙ ap decimal v; small = omega (arith, small, v) }

pub number_spelled : (most : ℕ) (text : List ℕ) (n : ℕ) → most < 2 ^ 64 → number_in most text ≡ Some n → Spells most text n
number_spelled most text n h e = spelled_at most text n h (is_decimal text && nat_le (digits_value 10 text) most) refl e
