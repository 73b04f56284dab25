-- The value of a number, and what `from_str_radix` makes of its digits.
use Rattle.std.proofs.Common.{◌≡◌, ◌≢◌, ℕ, ◌<◌, ◌≤◌, Bool, true, false, cond, eqb, ◌&&◌, ◌⊎◌, inl, inr, List, [], ◌∷◌, length, get_or}
use Rattle.std.proofs.Common.{drop, Some, None, Result, Ok, Err, refl, sym, ◌∙◌, arith}
use Rattle.std.specs.Prelude.{nat_le}
use Rattle.std.specs.Bool.{then_some}
use Rattle.std.specs.List.{list_all}
use Rattle.std.specs.Result.{result_ok}
use Rattle.std.specs.Str.Parse.{ParsesUnsigned, digits_value, without_leading_plus}
use Rattle.std.proofs.lemmas.Bool.{leb-true, eq-eqb, ne_eqb, and_parts}
use Rattle.std.proofs.lemmas.Bool.Decides.{nat_tests}
use Rattle.cilk_lex_tokens.specs.Byte.{continues_number, is_x}
use Rattle.cilk_lex.specs.Sight.{is_numeral, valued, number_in}
use Rattle.cilk_lex_tokens.specs.Spelling.{int_max}
use Rattle.cilk_lex.proofs.Numbers.{numeral_true, true_numeral}

no_plus_byte : (b : ℕ) → continues_number b ≡ true → eqb b 43 ≡ false
no_plus_byte b h = grind (arith, nat_tests)

no_plus : (ds : List ℕ) → list_all continues_number ds ≡ true → without_leading_plus ds ≡ ds
no_plus [] h = refl
no_plus (b ∷ bs) h = rw (no_plus_byte b (and_parts (continues_number b) (list_all continues_number bs) h).0) refl

pub no_value : {E : Type 0} (radix : ℕ) (ds : List ℕ) (r : Result ℕ E) → list_all continues_number ds ≡ true → ParsesUnsigned 32 radix ds r
    → None ≡ result_ok r → valued radix ds ≡ None
unfolding valued
no_value radix ds (Ok x) h p e = absurd cc
no_value radix ds (Err x) h p e = at (is_numeral radix ds && nat_le (digits_value radix ds) int_max) refl
  where
    at : (c : Bool) → (is_numeral radix ds && nat_le (digits_value radix ds) int_max) ≡ c → cond c (Some (digits_value radix ds)) None ≡ None
    at false e = refl
    at true e =
        let q = and_parts (is_numeral radix ds) _ e in
        let n = true_numeral radix ds q.0 in
        let l = leb-true (digits_value radix ds) int_max q.1 in
        absurd ((rw (no_plus ds h) at p) (n, omega (arith, l)))

pub some_value : {E : Type 0} (radix : ℕ) (ds : List ℕ) (v : ℕ) (r : Result ℕ E) → list_all continues_number ds ≡ true
    → ParsesUnsigned 32 radix ds r → Some v ≡ result_ok r → valued radix ds ≡ then_some (nat_le v int_max) v
unfolding valued
some_value radix ds v (Err x) h p e = absurd cc
some_value radix ds v (Ok x) h p e =
    let q = rw (no_plus ds h) at p in
    let s : digits_value radix ds ≡ v = let t : x ≡ v = cc in sym q.1 ∙ t in
    rw (numeral_true radix ds q.0.0, s) (at (nat_le v int_max))
  where
    at : (c : Bool) → cond c (Some v) None ≡ then_some c v
    at true = refl
    at false = refl

-- ---- which digits, in which radix

pub in_ten : (t : List ℕ) → (length t < 2) ⊎ (get_or t 0 0 ≢ 48) → number_in t ≡ valued 10 t
unfolding number_in valued is_numeral
in_ten [] h = refl
in_ten (a ∷ []) h = refl
in_ten (a ∷ b ∷ bs) (inl h) = absurd (omega (arith, h))
in_ten (a ∷ b ∷ bs) (inr h) = rw (ne_eqb a 48 h) refl

pub in_sixteen : (t : List ℕ) → 2 ≤ length t → get_or t 0 0 ≡ 48 → is_x (get_or t 1 0) ≡ true → number_in t ≡ valued 16 (drop 2 t)
unfolding number_in
in_sixteen [] l h x = absurd (omega (arith, l))
in_sixteen (a ∷ []) l h x = absurd (omega (arith, l))
in_sixteen (a ∷ b ∷ bs) l h x = rw (eq-eqb a 48 h, x) refl

pub in_eight : (t : List ℕ) → 2 ≤ length t → get_or t 0 0 ≡ 48 → is_x (get_or t 1 0) ≡ false → number_in t ≡ valued 8 (drop 1 t)
unfolding number_in
in_eight [] l h x = absurd (omega (arith, l))
in_eight (a ∷ []) l h x = absurd (omega (arith, l))
in_eight (a ∷ b ∷ bs) l h x = rw (eq-eqb a 48 h, x) refl
