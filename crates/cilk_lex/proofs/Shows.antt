-- What a sight says of a text.
use Rattle.std.proofs.Common.{◌≡◌, ℕ, ◌≤◌, Bool, List, [], ◌++◌, length, take, drop, Option, sym, ap, ◌∙◌, arith, length-append}
use Rattle.std.proofs.lemmas.List.{take_at, drop_at}
use Rattle.cilk_lex_tokens.specs.Lexeme.{Lexeme}
use Rattle.cilk_lex_tokens.specs.Lexing.{Front, Amiss}
use Rattle.cilk_lex.specs.Sight.{Sight, found, amiss, nothing}

abbrev pub Shows : Bool → ℕ → List ℕ → Sight → Type 0
Shows fresh at text (found n x) = (n ≤ length text) × Front fresh (take n text) (drop n text) x
Shows fresh at text (amiss f) = Amiss fresh at text f
Shows fresh at text nothing = text ≡ []

-- a front of a text, cut off at its length
pub shown_at : {w rest : List ℕ} {x : Option Lexeme} (fresh : Bool) (at n : ℕ) (text : List ℕ) → Front fresh w rest x → text ≡ w ++ rest
    → n ≡ length w → Shows fresh at text (found n x)
shown_at {w} {rest} {x} fresh at n text f e l =
    let t : take n text ≡ w = ap (λ t. take n t) e ∙ take_at w rest n (sym l) in
    let d : drop n text ≡ rest = ap (λ t. drop n t) e ∙ drop_at w rest n (sym l) in
    (omega (arith, l, ap length e, length-append w rest), rw (t, d) f)
