-- Reading on in a text literal.
use Rattle.std.proofs.Common.{◌≡◌, ℕ, ◌<◌, ◌==◌, Bool, true, false, if◌then◌else◌, List, [], ◌∷◌, ◌++◌, IsAscii, refl, sym, ap, subst, ◌∙◌, arith}
use Rattle.std.proofs.Common.{append_assoc, eq-eqb}
use Rattle.std.proofs.lemmas.Bool.{ne_eqb}
use Rattle.std.proofs.lemmas.Str.{IsAscii-drop}
use Rattle.cilk_tree_syntax.specs.lexeme.Lexeme.{escaped, body_says}

-- a byte that says itself
pub says_itself : (said rest others behind all : List ℕ) (b n : ℕ) → rest ≡ b ∷ others → others ≡ n ∷ behind → (b ≡ 34 → ⊥) → (b ≡ 92 → ⊥)
    → said ++ body_says rest ≡ all → (said ++ b ∷ []) ++ body_says others ≡ all
says_itself said rest others behind all b n e h no_end no_escape same =
    let last : body_says rest ≡ b ∷ body_says others = ap body_says (e ∙ ap (λ (v : List ℕ). b ∷ v) h)
    ∙ rw (ne_eqb b 34 no_end, ne_eqb b 92 no_escape) (ap (λ (v : List ℕ). b ∷ body_says v) (sym h)) in
    append_assoc said (b ∷ []) (body_says others) ∙ ap (λ (v : List ℕ). said ++ v) (sym last) ∙ same

-- a backslash and what stands behind it
pub says_escaped : (said rest others behind all : List ℕ) (b n : ℕ) → rest ≡ b ∷ others → others ≡ n ∷ behind → (b ≡ 34 → ⊥) → b ≡ 92
    → said ++ body_says rest ≡ all → (said ++ escaped n ∷ []) ++ body_says behind ≡ all
says_escaped said rest others behind all b n e h no_end is_escape same =
    let last : body_says rest ≡ escaped n ∷ body_says behind = ap body_says (e ∙ ap (λ (v : List ℕ). b ∷ v) h)
    ∙ rw (ne_eqb b 34 no_end, eq-eqb b 92 is_escape) refl in
    append_assoc said (escaped n ∷ []) (body_says behind) ∙ ap (λ (v : List ℕ). said ++ v) (sym last) ∙ same

pub first_ascii : (rest others : List ℕ) (b : ℕ) → rest ≡ b ∷ others → IsAscii rest → b < 128
first_ascii rest others b e h = subst (λ (v : List ℕ). IsAscii v) e h 0

pub others_ascii : (rest others : List ℕ) (b : ℕ) → rest ≡ b ∷ others → IsAscii rest → IsAscii others
others_ascii rest others b e h = IsAscii-drop (b ∷ others) 1 (subst (λ (v : List ℕ). IsAscii v) e h)

small : (n : ℕ) (a b : Bool) → n < 128 → (if a then 10 else (if b then 9 else n)) < 128
small n true b lt = omega arith
small n false true lt = omega arith
small n false false lt = lt

pub escaped_ascii : (n : ℕ) → n < 128 → escaped n < 128
escaped_ascii n lt = small n (n == 110) (n == 116) lt
