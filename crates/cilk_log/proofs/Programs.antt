-- The line of a digest tells that digest, and no other line does.
use Rattle.std.proofs.Common.{◌≡◌, ℕ, zero, suc, ◌%◌, ◌/◌, Bool, true, false, cond, not, List, [], ◌∷◌, ◌++◌, length, get_or, Option, Some, None, Result, Ok}
use Rattle.std.proofs.Common.{Err, refl, sym, ap, ◌∙◌, arith}
use Rattle.std.proofs.lemmas.Bool.{and_parts, and_from}
use Rattle.std.specs.Prelude.{◌==◌, bytes_eq, codes}
use Rattle.std.specs.List.{list_all}
use Rattle.std.proofs.lemmas.Slice.Eq.{bytes_eq-Decides}
use Rattle.hex.specs.declared.error.FromHexError.{FromHexError}
use Rattle.hex.specs.Hex.{lower_digits, encode_with, encode_lower, decode_sized, IsBytes}
use Rattle.hex.proofs.HexLemmas.{decode_sized-encode_lower, decode_sized-ok, decode_sized-twice, decode_of-ok}
use Rattle.cilk_log.specs.Text.{digest_text, ProgramFits}
use Rattle.cilk_log.specs.Reading.{behind, digest_by, digest_in, digest_told, program_in}
use Rattle.cilk_log.proofs.Acts.{behind_told}

-- ---- written

digest_written : (digest : List ℕ) → length digest ≡ 32 → IsBytes digest → digest_in (encode_lower digest) ≡ Some digest
digest_written digest n h =
    rw (decode_sized-encode_lower digest 32 n h, (bytes_eq-Decides (encode_lower digest) (encode_lower digest)).1 refl) refl

pub program_written : (digest : List ℕ) → ProgramFits (Some digest) → program_in (digest_text digest) ≡ Some digest
program_written digest f = digest_written digest f.0 f.1

-- ---- told

pub record NamesProgram (line digest : List ℕ) : Type 0 where
  pub text : line ≡ digest_text digest
  pub fits : ProgramFits (Some digest)

digest_at : (text digest : List ℕ) (r : Result (List ℕ) FromHexError) → decode_sized text 32 ≡ r → digest_by r text ≡ Some digest
    → (text ≡ encode_lower digest) × ProgramFits (Some digest)
digest_at text digest (Err e) d h = absurd cc
digest_at text digest (Ok bytes) d h = at (bytes_eq (encode_lower bytes) text) refl h
  where
    at : (b : Bool) → bytes_eq (encode_lower bytes) text ≡ b → cond b (Some bytes) None ≡ Some digest → (text ≡ encode_lower digest) × ProgramFits (Some digest)
    at false e f = absurd cc
    at true e f =
        let same : bytes ≡ digest = cc in
        let len = decode_sized-ok text 32 bytes d in
        let told = decode_of-ok text bytes (sym (decode_sized-twice text 32 len) ∙ d) in
        rw (← same) (sym ((bytes_eq-Decides (encode_lower bytes) text).0 e), (omega (arith, told.2, len), told.3))

pub program_told : (line digest : List ℕ) → program_in line ≡ Some digest → NamesProgram line digest
program_told line digest e = at (behind (codes "program ") line) refl e
  where
    at : (o : Option (List ℕ)) → behind (codes "program ") line ≡ o → digest_told o ≡ Some digest → NamesProgram line digest
    at None f g = absurd cc
    at (Some text) f g =
        let d = digest_at text digest (decode_sized text 32) refl g in
        record { text = behind_told (codes "program ") line text f ∙ ap (λ t. codes "program " ++ t) d.0; fits = d.1 }

-- ---- no newline

plain_at : (t : List ℕ) (k : ℕ) → list_all (λ b. not (b == 10)) t ≡ true → not (get_or t k 0 == 10) ≡ true
plain_at [] k h = refl
plain_at (b ∷ t) zero h = (and_parts (not (b == 10)) _ h).0
plain_at (b ∷ t) (suc k) h = plain_at t k (and_parts (not (b == 10)) _ h).1

digits_plain : (bytes : List ℕ) → list_all (λ b. not (b == 10)) (encode_lower bytes) ≡ true
unfolding encode_with
digits_plain [] = refl
digits_plain (b ∷ bytes) =
    and_from _ _ (plain_at lower_digits (b / 16) refl) (and_from _ _ (plain_at lower_digits (b % 16) refl) (digits_plain bytes))

pub program_is_plain : (digest : List ℕ) → list_all (λ b. not (b == 10)) (digest_text digest) ≡ true
program_is_plain digest = digits_plain digest
