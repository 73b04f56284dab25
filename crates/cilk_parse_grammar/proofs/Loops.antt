-- A loop that reads one after another.
use Rattle.std.proofs.Common.{◌≡◌, Bool, true, false, List, [], ◌∷◌, ◌++◌, Result, Ok, Err, refl, sym, ap, ◌∙◌, append_assoc}
use Rattle.std.proofs.lemmas.List.{append-nil}
use Rattle.cilk_parse_grammar.specs.declared.fault.Fault.{Fault}
use Rattle.cilk_parse_grammar.specs.declared.fault.ReadError.{ReadError}
use Rattle.cilk_parse_grammar.specs.declared.fault.ReadError.TheVariants as errors
use Rattle.cilk_parse_grammar.specs.ReadsAs.{Fails, onto}
use Rattle.cilk_parse_grammar.specs.Rule.{◌>>=◌, Read, many_of}
use Rattle.cilk_parse_grammar.proofs.Many.{Shortens, many_step}

-- what fails first fails all
pub fails_first : {A B : Type 0} (e : ReadError) (r : Result A Fault) (f : A → Result B Fault) → Fails e r → Fails e (r >>= f)
fails_first errors.Memory r f h = tt
fails_first (errors.Fault d) r f h = rw h refl

pub onto_nothing : {P A : Type 0} (r : Read P (List A)) → onto [] r ≡ r
unfolding onto
onto_nothing (Ok x) = refl
onto_nothing (Err e) = refl

module _ {P A : Type 0} (wants : List P → Bool) (one : List P → Read P A) (sh : Shortens one) (front : List A) (ts : List P) (total : Read P (List A)) where
  pub loop_ends : wants ts ≡ false → onto front (many_of wants one ts) ≡ total → total ≡ Ok (front, ts)
  unfolding onto
  loop_ends e h = sym h ∙ ap (onto front) (many_step wants one ts sh) ∙ rw (e, append-nil front) refl

  pub loop_fails : (x : ReadError) → wants ts ≡ true → onto front (many_of wants one ts) ≡ total → Fails x (one ts) → Fails x total
  unfolding onto
  loop_fails x e h k =
      let step : total ≡ onto front (one ts >>= λ x. many_of wants one x.1 >>= λ xs. Ok (x.0 ∷ xs.0, xs.1)) = sym h
      ∙ ap (onto front) (many_step wants one ts sh) ∙ rw e refl in
      rw step (fails_first x _ _ (fails_first x _ _ k))

  regroup : (y : A) (r : Read P (List A)) → onto front (r >>= λ xs. Ok (y ∷ xs.0, xs.1)) ≡ onto (front ++ y ∷ []) r
  unfolding onto
  regroup y (Ok xs) = ap (λ (l : List A). Ok (l, xs.1)) (sym (append_assoc front (y ∷ []) xs.0))
  regroup y (Err e) = refl

  pub loop_goes : (y : A) (rest : List P) → wants ts ≡ true → onto front (many_of wants one ts) ≡ total → one ts ≡ Ok (y, rest)
      → onto (front ++ y ∷ []) (many_of wants one rest) ≡ total
  loop_goes y rest e h k =
      sym (regroup y (many_of wants one rest)) ∙ ap (λ r. onto front (r >>= λ x. many_of wants one x.1 >>= λ xs. Ok (x.0 ∷ xs.0, xs.1))) (sym k)
      ∙ sym (ap (onto front) (many_step wants one ts sh) ∙ rw e refl) ∙ h
