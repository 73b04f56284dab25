-- The last byte tells whether a text ends in a newline.
use Rattle.std.proofs.Common.{◌≡◌, ℕ, suc, ◌-◌, Bool, true, List, [], ◌∷◌, length, Some, refl, sym, ap, ◌∙◌, if◌then◌else◌, eq-eqb, arith}
use Rattle.std.specs.Prelude.{◌==◌, slice_get, option_map, unwrap_or, codes}
use Rattle.std.proofs.lemmas.Bool.{ne_eqb}
use Rattle.cilk_frame.specs.model.End.{ends_in_newline, line_break}

ends_in_newline-last : (bytes : List ℕ) → ends_in_newline bytes ≡ unwrap_or (option_map (λ b. b == 10) (slice_get bytes (length bytes - 1))) true
ends_in_newline-last [] = refl
ends_in_newline-last (b ∷ []) = refl
ends_in_newline-last (b ∷ c ∷ bytes) =
    let e : suc (length (c ∷ bytes) - 1) ≡ length (b ∷ c ∷ bytes) - 1 = omega arith in
    ends_in_newline-last (c ∷ bytes)
    ∙ ap (λ k. unwrap_or (option_map (λ x. x == 10) (slice_get (b ∷ c ∷ bytes) k)) true) e

ends_in_newline-at : (bytes : List ℕ) (b : ℕ) → Some b ≡ slice_get bytes (length bytes - 1) → ends_in_newline bytes ≡ (b == 10)
ends_in_newline-at bytes b e =
    ends_in_newline-last bytes ∙ ap (λ o. unwrap_or (option_map (λ x. x == 10) o) true) (sym e)

abbrev breaks : Bool → List ℕ
breaks ends = if ends then [] else codes "\n"

pub break-none : (bytes : List ℕ) (b : ℕ) → Some b ≡ slice_get bytes (length bytes - 1) → b ≡ 10 → [] ≡ line_break bytes
break-none bytes b e h = sym (ap breaks (ends_in_newline-at bytes b e ∙ eq-eqb b 10 h))

pub break-some : (bytes : List ℕ) (b : ℕ) → Some b ≡ slice_get bytes (length bytes - 1) → (b ≡ 10 → ⊥) → 10 ∷ [] ≡ line_break bytes
break-some bytes b e h = sym (ap breaks (ends_in_newline-at bytes b e ∙ ne_eqb b 10 h))
