-- The decimal text of a number is an integer constant.
use Rattle.std.proofs.Common.{◌≡◌, ℕ, zero, suc, ◌<◌, ◌≤◌, ◌^◌, List, [], ◌∷◌, length, get_or, true, refl, arith}
use Rattle.std.specs.Prelude.{decimal}
use Rattle.std.specs.Char.{digit_value}
use Rattle.std.specs.Int.{is_in_range}
use Rattle.std.specs.Str.Parse.{AllDigits, digits_value}
use Rattle.std.proofs.lemmas.Bool.Decides.{nat_tests}
use Rattle.std.proofs.lemmas.Fmt.{decimal_is_IsNumeral, decimal_digit, decimal_nonempty, first_decimal}
use Rattle.cilk_lex_tokens.specs.Spelling.{IsNumber, zero_alone, decimal_digits, int_max}

digit_in_range : (b : ℕ) → 48 < b → digit_value b < 10 → is_in_range 49 57 b ≡ true
digit_in_range b l h = grind (arith, nat_tests)

from_digits : (w : List ℕ) (n : ℕ) → 0 < length w → 48 < get_or w 0 0 → AllDigits 10 w → digits_value 10 w ≡ n → n ≤ int_max → IsNumber w n
from_digits [] n p l d v m = absurd (omega (arith, p))
from_digits (b ∷ bs) n p l d v m = decimal_digits refl (digit_in_range b l d.0) d v m

at_number : (n : ℕ) → 0 < n → n ≤ int_max → IsNumber (decimal n) n
at_number n p m =
    let low : n < 2 ^ 64 = omega arith in
    let k = decimal_is_IsNumeral n low in
    from_digits (decimal n) n (decimal_nonempty n low) (first_decimal n p low) k.0.1 k.1 m

pub decimal_number : (n : ℕ) → n ≤ int_max → IsNumber (decimal n) n
decimal_number zero m = zero_alone (decimal_digit 0 (omega arith)) refl
decimal_number (suc n) m = at_number (suc n) (omega arith) m
