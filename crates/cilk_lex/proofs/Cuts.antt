-- Where a text may be cut.
use Rattle.std.proofs.Common.{◌≡◌, ℕ, ◌+◌, ◌-◌, ◌<◌, ◌≤◌, List, [], ◌∷◌, length, get_or, take, true, sym, subst, arith}
use Rattle.std.specs.Prelude.{IsCharBoundary, IsUtf8}
use Rattle.std.specs.Char.{is_ascii_digit}
use Rattle.std.specs.List.{prefix_len}
use Rattle.std.proofs.lemmas.List.{get_or-take, length-take-le}
use Rattle.std.proofs.lemmas.List.Sums.{prefix_len-le-length}
use Rattle.std.proofs.lemmas.Str.{IsCharBoundary-after_ascii}
use Rattle.cilk_lex_tokens.specs.Byte.{begins_name, continues_name, continues_number}
use Rattle.cilk_lex_tokens.specs.Spelling.{has_name_form, has_number_form}
use Rattle.cilk_lex.proofs.Forms.{IsPlain, EndsPlain, name_plain, number_plain}
use Rattle.cilk_lex.proofs.Numbers.{number_form}
use Rattle.cilk_lex.proofs.Words.{name_form}

-- behind an ASCII byte
pub ends_cut : (t : List ℕ) (n : ℕ) → IsUtf8 t → n ≤ length t → EndsPlain (take n t) → IsCharBoundary t n
ends_cut t n u l p =
    let k : length (take n t) ≡ n = length-take-le n t l in
    let j : n - 1 < n = omega (arith, p.0, k) in
    let low : get_or t (n - 1) 0 < 128 = rw (sym (get_or-take n t (n - 1) 0 j)) (rw k at p.1) in
    let e : n - 1 + 1 ≡ n = omega arith in
    subst (λ i. IsCharBoundary t i) e (IsCharBoundary-after_ascii t (n - 1) u (omega (arith, j, l)) low)

pub plain_cut : (t : List ℕ) (n : ℕ) → IsUtf8 t → n ≤ length t → IsPlain (take n t) → IsCharBoundary t n
plain_cut t n u l p = ends_cut t n u l (p.0, p.1 (length (take n t) - 1))

-- behind a name, and behind a number
pub name_formed : (t : List ℕ) (n : ℕ) → 0 < length t → begins_name (get_or t 0 0) ≡ true → n ≡ prefix_len continues_name t → has_name_form (take n t) ≡ true
name_formed [] n l h e = absurd (omega (arith, l))
name_formed (b ∷ bs) n l h e = rw e (name_form b bs h)

pub number_formed : (t : List ℕ) (n : ℕ) → 0 < length t → is_ascii_digit (get_or t 0 0) ≡ true → n ≡ prefix_len continues_number t
    → has_number_form (take n t) ≡ true
number_formed [] n l h e = absurd (omega (arith, l))
number_formed (b ∷ bs) n l h e = rw e (number_form b bs h)

pub name_cut : (t : List ℕ) (n : ℕ) → IsUtf8 t → 0 < length t → begins_name (get_or t 0 0) ≡ true → n ≡ prefix_len continues_name t → IsCharBoundary t n
name_cut t n u l h e = plain_cut t n u (omega (arith, e, prefix_len-le-length continues_name t)) (name_plain (take n t) (name_formed t n l h e))

pub number_cut : (t : List ℕ) (n : ℕ) → IsUtf8 t → 0 < length t → is_ascii_digit (get_or t 0 0) ≡ true → n ≡ prefix_len continues_number t → IsCharBoundary t n
number_cut t n u l h e = plain_cut t n u (omega (arith, e, prefix_len-le-length continues_number t)) (number_plain (take n t) (number_formed t n l h e))
