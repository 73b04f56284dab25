-- The longest run of a class of bytes at the front of a text.
use Rattle.std.proofs.Common.{◌≡◌, ℕ, ◌+◌, ◌<◌, Bool, true, false, cond, List, [], ◌∷◌, ◌++◌, length, take, drop, refl, sym, ap, ◌∙◌}
use Rattle.std.proofs.Common.{arith, one-add}
use Rattle.std.specs.Prelude.{IsAscii}
use Rattle.std.specs.List.{list_all, prefix_len}
use Rattle.std.proofs.lemmas.Bool.{and_parts, and_from}
use Rattle.std.proofs.lemmas.List.{take_at, drop_at}
use Rattle.std.proofs.lemmas.Str.Ascii.{IsAscii-nil, IsAscii-cons}
use Rattle.std.proofs.lemmas.Bool.Decides.{nat_tests}
use Rattle.cilk_lex_tokens.specs.Byte.{is_blank, continues_name, continues_number}
use Rattle.cilk_lex_tokens.specs.Lexing.{EndsBefore}

module _ (class : ℕ → Bool) where
  pub run_passes : (t : List ℕ) → list_all class (take (prefix_len class t) t) ≡ true
  run_passes [] = refl
  run_passes (b ∷ bs) = at_byte (class b) refl (run_passes bs)
    where
      at_byte : (c : Bool) → class b ≡ c → list_all class (take (prefix_len class bs) bs) ≡ true
          → list_all class (take (cond c (1 + prefix_len class bs) 0) (b ∷ bs)) ≡ true
      at_byte true e h = rw one-add (and_from (class b) _ e h)
      at_byte false e h = refl

  pub run_ends : (t : List ℕ) → EndsBefore class (drop (prefix_len class t) t)
  run_ends [] = tt
  run_ends (b ∷ bs) = at_byte (class b) refl (run_ends bs)
    where
      at_byte : (c : Bool) → class b ≡ c → EndsBefore class (drop (prefix_len class bs) bs)
          → EndsBefore class (drop (cond c (1 + prefix_len class bs) 0) (b ∷ bs))
      at_byte true e h = rw one-add h
      at_byte false e h = e

  pub run_length : (w rest : List ℕ) → list_all class w ≡ true → EndsBefore class rest → prefix_len class (w ++ rest) ≡ length w
  run_length [] [] h e = refl
  run_length [] (b ∷ bs) h e = rw e refl
  run_length (b ∷ bs) rest h e =
      let p = and_parts (class b) (list_all class bs) h in
      rw p.0 (omega (arith, run_length bs rest p.1 e))

  -- the first byte of a run, and the others
  pub run_of : (t : List ℕ) (b : ℕ) (bs : List ℕ) → t ≡ b ∷ bs → class b ≡ true → (n : ℕ) → n ≡ prefix_len class t → take n t ≡ b
      ∷ take (prefix_len class bs) bs
  run_of t b bs s e n f = rw (f, s, e, one-add) refl

  pub run_ascii : ((b : ℕ) → class b ≡ true → b < 128) → (w : List ℕ) → list_all class w ≡ true → IsAscii w
  run_ascii low [] h = IsAscii-nil
  run_ascii low (b ∷ bs) h = let p = and_parts (class b) (list_all class bs) h in IsAscii-cons b bs (low b p.0) (run_ascii low bs p.1)

pub blank_low : (b : ℕ) → is_blank b ≡ true → b < 128
blank_low b h = grind (arith, nat_tests)

pub name_low : (b : ℕ) → continues_name b ≡ true → b < 128
name_low b h = grind (arith, nat_tests)

pub number_low : (b : ℕ) → continues_number b ≡ true → b < 128
number_low b h = grind (arith, nat_tests)

pub split_same : (u r v s : List ℕ) → u ++ r ≡ v ++ s → length u ≡ length v → (u ≡ v) × (r ≡ s)
split_same u r v s e l = (
  sym (take_at u r (length v) l) ∙ ap (λ t. take (length v) t) e ∙ take_at v s (length v) refl,
  sym (drop_at u r (length v) l) ∙ ap (λ t. drop (length v) t) e ∙ drop_at v s (length v) refl,
)
