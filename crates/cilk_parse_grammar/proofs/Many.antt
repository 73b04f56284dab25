-- Reading one after another: a step at a time, and what it depends on.
use Rattle.std.proofs.Common.{◌≡◌, ℕ, zero, suc, ◌<◌, Bool, if◌then◌else◌, List, [], ◌∷◌, length, Ok, refl, sym, ap, subst, arith}
use Rattle.cilk_parse_grammar.specs.Rule.{◌>>=◌, Read, many_in, many_of}
use Rattle.cilk_parse_grammar.proofs.RulesTools.{bind_same}
use Rattle.cilk_parse_grammar.proofs.RulesLocal.{SameHead, Local, local_bind, local_as, local_choice, ok_here}

module _ {P A : Type 0} where
  -- each leaves fewer tokens
  abbrev pub Shortens : (List P → Read P A) → Type 0
  Shortens one = (us : List P) (y : A × List P) → one us ≡ Ok y → length y.1 < length us

  same_many : (wants : List P → Bool) (one : List P → Read P A) (m n : ℕ) (ts : List P) → Shortens one → length ts < m → length ts < n
      → many_in m wants one ts ≡ many_in n wants one ts
  unfolding many_in
  same_many wants one zero n ts sh lt lt' = absurd (omega (arith, lt))
  same_many wants one (suc m) zero ts sh lt lt' = absurd (omega (arith, lt'))
  same_many wants one (suc m) (suc n) ts sh lt lt' =
      ap (λ r. if wants ts then r else Ok ([], ts)) (bind_same (one ts) (one ts) _ _ refl (λ x h. let less = sh ts x h in
      ap (λ r. r >>= λ xs. Ok (x.0 ∷ xs.0, xs.1)) (same_many wants one m n x.1 sh (omega (arith, lt, less)) (omega (arith, lt', less)))))

  pub many_step : (wants : List P → Bool) (one : List P → Read P A) (ts : List P) → Shortens one
      → many_of wants one ts ≡ (if wants ts then (one ts >>= λ x. many_of wants one x.1 >>= λ xs. Ok (x.0 ∷ xs.0, xs.1)) else Ok ([], ts))
  unfolding many_of many_in
  many_step wants one ts sh =
      ap (λ r. if wants ts then r else Ok ([], ts)) (bind_same (one ts) (one ts) _ _ refl (λ x h.
      ap (λ r. r >>= λ xs. Ok (x.0 ∷ xs.0, xs.1)) (same_many wants one (length ts) (suc (length x.1)) x.1 sh (sh ts x h) (omega arith))))

  -- ---- where reading stops

  module _ (same : Type 0) (wants : List P → Bool) (heads : (ts us : List P) → SameHead ts us → wants us ≡ wants ts)
      (one one' : List P → Read P A) (sh : Shortens one) (sh' : Shortens one')
      (lo : (us : List P) → Local {A = A} same us (one us) (λ vs. one' vs)) where
    abbrev goes_on : (List P → Read P A) → List P → Read P (List A)
    goes_on reader us = reader us >>= λ x. many_of wants reader x.1 >>= λ xs. Ok (x.0 ∷ xs.0, xs.1)

    goes_on_locally : (ts : List P) → ((x : A × List P) → one ts ≡ Ok x → Local {A = List A} same x.1 (many_of wants one x.1) (λ us. many_of wants one' us))
        → Local {A = List A} same ts (goes_on one ts) (λ us. goes_on one' us)
    goes_on_locally ts h =
        local_bind same ts (one ts) (λ us. one' us) _ (λ x. many_of wants one' x.1 >>= λ xs. Ok (x.0 ∷ xs.0, xs.1)) (lo ts)
        (λ x r. local_bind same x.1 (many_of wants one x.1) (λ us. many_of wants one' us) (λ xs. Ok (x.0 ∷ xs.0, xs.1))
        (λ xs. Ok (x.0 ∷ xs.0, xs.1)) (h x r) (λ xs q. ok_here (x.0 ∷ xs.0) xs.1 _ (λ us s. refl)))

    many_local : (long : ℕ) (ts : List P) → length ts < long → Local {A = List A} same ts (many_of wants one ts) (λ us. many_of wants one' us)
    many_local zero ts lt = absurd (omega (arith, lt))
    many_local (suc long) ts lt =
        subst (λ r. Local {A = List A} same ts r (λ us. many_of wants one' us)) (sym (many_step wants one ts sh))
        (local_as same ts _ (λ us. if wants us then goes_on one' us else Ok ([], us)) _ (λ us s. many_step wants one' us sh')
        (local_choice same wants ts (wants ts) _ _ (λ us. goes_on one' us) (λ us. Ok ([], us)) (heads ts) refl
        (λ e. goes_on_locally ts (λ x h. many_local long x.1 (omega (arith, lt, sh ts x h)))) (λ e. ok_here [] ts _ (λ us s. refl))))

    pub local_many : (ts : List P) → Local {A = List A} same ts (many_of wants one ts) (λ us. many_of wants one' us)
    local_many ts = many_local (suc (length ts)) ts (omega arith)
