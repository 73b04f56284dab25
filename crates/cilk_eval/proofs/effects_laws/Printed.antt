-- What `printf` writes, a byte at a time.
use Rattle.std.proofs.Common.{◌≡◌, ℕ, ℤ, nat_eq, false, List, [], ◌∷◌, ◌++◌, ap, ◌∙◌, sym, append_assoc, if◌then◌else◌}
use Rattle.std.proofs.lemmas.Bool.{ne_eqb}
use Rattle.cilk_eval.specs.model.Printing.{printed}

-- a byte that is no `%` in front of another byte
plain : (b c : ℕ) (format : List ℕ) (zs : List ℤ) → nat_eq b 37 ≡ false → printed (b ∷ c ∷ format) zs ≡ b ∷ printed (c ∷ format) zs
plain b c format [] h = ap (λ x. if x then c ∷ printed format [] else b ∷ printed (c ∷ format) []) h
plain b c format (z ∷ zs) h =
    ap
    (λ x. if x then (if nat_eq c 100 then Rattle.std.specs.Fmt.signed_decimal z ++ printed format zs else c ∷ printed format (z ∷ zs)) else
    b ∷ printed (c ∷ format) (z ∷ zs)) h

pub byte-put : (whole bytes new rest others behind : List ℕ) (b c : ℕ) (zs : List ℤ) → new ≡ bytes ++ b ∷ []
    → whole ≡ bytes ++ printed rest zs → rest ≡ b ∷ others → others ≡ c ∷ behind → (b ≡ 37 → ⊥)
    → whole ≡ new ++ printed others zs
byte-put whole bytes new rest others behind b c zs n h r o e =
    h ∙ ap (λ xs. bytes ++ printed xs zs) r ∙ ap (λ xs. bytes ++ printed (b ∷ xs) zs) o ∙ ap (λ xs. bytes ++ xs) (plain b c behind zs (ne_eqb b 37 e))
    ∙ seam bytes (printed (c ∷ behind) zs) ∙ ap (λ xs. (bytes ++ b ∷ []) ++ printed xs zs) (sym o) ∙ ap (λ xs. xs ++ printed others zs) (sym n)
  where
    seam : (xs ys : List ℕ) → xs ++ b ∷ ys ≡ (xs ++ b ∷ []) ++ ys
    seam xs ys = simp append_assoc

pub percent-put : (whole bytes new rest others behind : List ℕ) (b c : ℕ) (zs ys : List ℤ) → whole ≡ bytes ++ printed rest zs → rest ≡ b
    ∷ others → others ≡ c ∷ behind → b ≡ 37
    → bytes ++ printed (37 ∷ c ∷ behind) zs ≡ new ++ printed behind ys → whole ≡ new ++ printed behind ys
percent-put whole bytes new rest others behind b c zs ys h r o e k =
    h ∙ ap (λ xs. bytes ++ printed xs zs) r ∙ ap (λ xs. bytes ++ printed (b ∷ xs) zs) o ∙ ap (λ x. bytes ++ printed (x ∷ c ∷ behind) zs) e ∙ k
