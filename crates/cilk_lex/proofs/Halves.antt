-- A mark is looked for in two halves.
use Rattle.std.proofs.Common.{◌≡◌, ◌≢◌, ℕ, List, Bool, true, false, refl}
use Rattle.std.specs.Prelude.{MatchOption, Option, Some, None}
use Rattle.std.specs.Option.{option_or}
use Rattle.cilk_lex_tokens.specs.declared.mark.Mark.{Mark}
use Rattle.cilk_lex_tokens.specs.Spelling.{mark_spelling}
use Rattle.cilk_lex.specs.Marks.{is_byte}

-- no mark of either length
none_of_both : (text : List ℕ) → ((m : Mark) → is_byte m ≡ true → text ≢ mark_spelling m) → ((m : Mark) → is_byte m ≡ false → text ≢ mark_spelling m)
    → (m : Mark) (b : Bool) → is_byte m ≡ b → text ≢ mark_spelling m
none_of_both text short long m true is = short m is
none_of_both text short long m false is = long m is

pub in_halves : (text : List ℕ) (short long : Option Mark)
    → MatchOption short ((m : Mark) → is_byte m ≡ true → text ≢ mark_spelling m) (λ m. text ≡ mark_spelling m)
    → MatchOption long ((m : Mark) → is_byte m ≡ false → text ≢ mark_spelling m) (λ m. text ≡ mark_spelling m)
    → MatchOption (option_or short long) ((m : Mark) → text ≢ mark_spelling m) (λ m. text ≡ mark_spelling m)
in_halves text (Some m) long is_short is_long = is_short
in_halves text None (Some m) is_short is_long = is_long
in_halves text None None is_short is_long = λ m. none_of_both text is_short is_long m (is_byte m) refl
