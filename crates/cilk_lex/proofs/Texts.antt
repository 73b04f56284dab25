-- What the code finds at a quote.
use Rattle.std.proofs.Common.{◌≡◌, ℕ, ◌+◌, ◌<◌, false, List, ◌∷◌, ◌++◌, length, take, drop, codes, Some, None, refl, sym, ap, subst, arith, length-append}
use Rattle.cilk_lex_tokens.specs.declared.fault.LexFault.{LexFault}
use Rattle.cilk_lex_tokens.specs.declared.fault.LexFault.TheVariants.{OpenText}
use Rattle.cilk_lex_tokens.specs.declared.token.TokenKind.TheVariants as kind
use Rattle.cilk_lex_tokens.specs.Lexeme.{literal, body_says}
use Rattle.cilk_lex.specs.Sight.{found, amiss, quote_from, fault_from, body_shown, text_shown, text_sight}
use Rattle.cilk_lex.proofs.Quotes.{Quoted, quoted}
use Rattle.cilk_lex.specs.Front.{IsSeen}

pub quote_within : (t : List ℕ) (n : ℕ) → Some n ≡ quote_from false 0 t → n < length t
quote_within t n e =
    let q : Quoted 0 t (Some n) = subst (λ r. Quoted 0 t r) (sym e) (quoted 0 t)
    in omega (arith, q.long, ap length q.form, length-append q.body (34 ∷ q.rest))

module _ (text behind : List ℕ) (at : ℕ) (b : text ≡ codes "\"" ++ behind) where
  pub seen_open : None ≡ quote_from false 0 behind → text_sight at text ≡ amiss (OpenText at)
  unfolding text_sight text_shown
  seen_open e = rw (b, ← e) refl

  pub seen_fault : (n : ℕ) (f : LexFault) → Some n ≡ quote_from false 0 behind → Some f ≡ fault_from false (at + 1) (take n behind)
      → text_sight at text ≡ amiss f
  unfolding text_sight text_shown body_shown
  seen_fault n f e g = rw (b, ← e, ← g) refl

  pub seen_text : (n : ℕ) → Some n ≡ quote_from false 0 behind → None ≡ fault_from false (at + 1) (take n behind)
      → IsSeen text (text_sight at text) (record { kind = Some kind.Text; end = n + 2 })
  unfolding text_sight text_shown body_shown
  seen_text n e g = rw (b, ← e, ← g) (ap (λ (k : ℕ). found k (Some (literal (body_says (drop 1 (take k (34 ∷ behind))))))) (omega arith))
