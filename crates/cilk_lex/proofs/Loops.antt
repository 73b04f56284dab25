-- One byte more of a text.
use Rattle.std.proofs.Common.{◌≡◌, ◌≢◌, ℕ, ◌+◌, ◌-◌, ◌<◌, ◌≤◌, Bool, true, false, List, ◌∷◌, ◌||◌, ◌&&◌, length, get_or, drop, Some, None, refl, sym}
use Rattle.std.proofs.Common.{ap, ◌∙◌, add-one, drop-cons}
use Rattle.std.specs.Prelude.{◌==◌}
use Rattle.std.proofs.lemmas.Bool.{ne_eqb}
use Rattle.std.proofs.lemmas.List.{drop_all}
use Rattle.cilk_lex_tokens.specs.declared.fault.LexFault.TheVariants.{BadByte, BadEscape}
use Rattle.cilk_lex_tokens.specs.Byte.{is_space, is_line_end, is_escape, is_printed}
use Rattle.cilk_lex_tokens.specs.Lexing.{fresh_behind}
use Rattle.cilk_lex.specs.Sight.{ends_line, quote_from, fault_from}

module _ (t : List ℕ) (i : ℕ) (l : i < length t) where
  next : drop i t ≡ get_or t i 0 ∷ drop (i + 1) t
  next = drop-cons t i 0 l ∙ ap (λ j. get_or t i 0 ∷ drop j t) (sym (add-one i))

  -- ---- to the end of the line

  pub line_hit : get_or t i 0 ≡ 10 → ends_line (drop i t) ≡ true
  unfolding ends_line
  line_hit e = rw (next, e) refl

  pub line_miss : get_or t i 0 ≢ 10 → is_line_end (get_or t i 0) ≡ false → ends_line (drop i t) ≡ false
  unfolding ends_line
  line_miss n e = rw (next, ne_eqb (get_or t i 0) 10 n, e) refl

  pub line_on : get_or t i 0 ≢ 10 → is_line_end (get_or t i 0) ≡ true → ends_line (drop i t) ≡ ends_line (drop (i + 1) t)
  unfolding ends_line
  line_on n e = rw (next, ne_eqb (get_or t i 0) 10 n, e) refl

  -- ---- to the closing quote

  pub quote_newline : (e : Bool) → get_or t i 0 ≡ 10 → quote_from e i (drop i t) ≡ None
  unfolding quote_from
  quote_newline true h = rw (next, h) refl
  quote_newline false h = rw (next, h) refl

  pub quote_hit : get_or t i 0 ≡ 34 → quote_from false i (drop i t) ≡ Some i
  unfolding quote_from
  quote_hit h = rw (next, h) refl

  pub quote_taken : get_or t i 0 ≢ 10 → quote_from true i (drop i t) ≡ quote_from false (i + 1) (drop (i + 1) t)
  unfolding quote_from
  quote_taken n = rw (next, ne_eqb (get_or t i 0) 10 n, add-one i) refl

  pub quote_on : get_or t i 0 ≢ 10 → get_or t i 0 ≢ 34 → quote_from false i (drop i t) ≡ quote_from (get_or t i 0 == 92) (i + 1) (drop (i + 1) t)
  unfolding quote_from
  quote_on n m = rw (next, ne_eqb (get_or t i 0) 10 n, ne_eqb (get_or t i 0) 34 m, add-one i) refl

  -- ---- between the quotes

  pub fault_escape : (at : ℕ) → is_escape (get_or t i 0) ≡ false → fault_from true at (drop i t) ≡ Some (BadEscape (at - 1))
  unfolding fault_from
  fault_escape at e = rw (next, e) refl

  pub fault_taken : (at : ℕ) → is_escape (get_or t i 0) ≡ true → fault_from true at (drop i t) ≡ fault_from false (at + 1) (drop (i + 1) t)
  unfolding fault_from
  fault_taken at e = rw (next, e, add-one at) refl

  pub fault_backslash : (at : ℕ) → get_or t i 0 ≡ 92 → fault_from false at (drop i t) ≡ fault_from true (at + 1) (drop (i + 1) t)
  unfolding fault_from
  fault_backslash at e = rw (next, e, add-one at) refl

  pub fault_byte : (at : ℕ) → get_or t i 0 ≢ 92 → is_printed (get_or t i 0) ≡ false → fault_from false at (drop i t) ≡ Some (BadByte at)
  unfolding fault_from
  fault_byte at n e = rw (next, ne_eqb (get_or t i 0) 92 n, e) refl

  pub fault_on : (at : ℕ) → get_or t i 0 ≢ 92 → is_printed (get_or t i 0) ≡ true → fault_from false at (drop i t) ≡ fault_from false (at + 1) (drop (i + 1) t)
  unfolding fault_from
  fault_on at n e = rw (next, ne_eqb (get_or t i 0) 92 n, e, add-one at) refl

  -- ---- to the end of a front

  pub fresh_on : (fresh : Bool) → fresh_behind fresh (drop i t) ≡ fresh_behind (get_or t i 0 == 10 || (is_space (get_or t i 0) && fresh)) (drop (i + 1) t)
  fresh_on fresh = rw next refl

-- ---- at the end

pub fresh_done : (t : List ℕ) (i : ℕ) (fresh : Bool) → length t ≤ i → fresh_behind fresh (drop i t) ≡ fresh
fresh_done t i fresh l = rw (drop_all i t l) refl

pub line_done : (t : List ℕ) (i : ℕ) → length t ≤ i → ends_line (drop i t) ≡ true
unfolding ends_line
line_done t i l = rw (drop_all i t l) refl

pub quote_done : (t : List ℕ) (i j : ℕ) (e : Bool) → length t ≤ i → quote_from e j (drop i t) ≡ None
unfolding quote_from
quote_done t i j true l = rw (drop_all i t l) refl
quote_done t i j false l = rw (drop_all i t l) refl

pub fault_done : (t : List ℕ) (i at : ℕ) (e : Bool) → length t ≤ i → fault_from e at (drop i t) ≡ None
unfolding fault_from
fault_done t i at true l = rw (drop_all i t l) refl
fault_done t i at false l = rw (drop_all i t l) refl
