-- What is read by a rule is spelled so.
use Rattle.std.proofs.Common.{◌≡◌, ℕ, zero, suc, Bool, true, false, if◌then◌else◌, List, [], ◌∷◌, ◌++◌, length, Option, Ok, refl, sym, ap, subst, ◌∙◌}
use Rattle.std.proofs.Common.{◌⊎◌, inl, inr, append_assoc}
use Rattle.cilk_parse_grammar.specs.Rule as rule
use Rattle.cilk_parse_grammar.specs.Rule.{has, Rule, done, skip, part, and_then, either, many, nearest, by_value, class_at, next, token_at}
use Rattle.cilk_parse_grammar.specs.Rule.{EachBefore, no_more, one_more, Both, Read, many_in, many_of}
use Rattle.cilk_parse_grammar.proofs.RulesTools.{bind_ok, ok_is, chosen}
use Rattle.cilk_parse_grammar.proofs.Tokens.{token_is, next_is}

module _ {P : Type 0} (cls : P → ℕ) where
  -- the front of the tokens spells what was read, in front of what is left
  pub record Took {A : Type 0} (R : Option ℕ → List P → A → Type 0) (ts : List P) (y : A × List P) : Type 0 where
    pub used : List P
    pub whole : ts ≡ used ++ y.1
    pub spelled : R (class_at cls y.1) used y.0

  many_takes : {A : Type 0} (R : Option ℕ → List P → A → Type 0) (wants : List P → Bool) (one : List P → Read P A) (n : ℕ) (ts : List P) (y : List A × List P)
      → ((us : List P) (x : A × List P) → one us ≡ Ok x → Took R us x) → many_in n wants one ts ≡ Ok y → Took (λ k us xs. EachBefore cls R k us xs) ts y
  unfolding many_in
  many_takes R wants one zero ts y h e = absurd cc
  many_takes {A = A} R wants one (suc n) ts y h e =
      elim (chosen (wants ts) _ _ _ e) [
        | inl b ↦
            let a = bind_ok (one ts) _ y b.1 in
            let c = bind_ok (many_in n wants one a.0.1) _ y a.2 in
            let t = h ts a.0 a.1 in
            let m = many_takes R wants one n a.0.1 c.0 h c.1 in
            let k : class_at cls a.0.1 ≡ next cls m.used (class_at cls c.0.1) = ap (λ (l : List P). class_at cls l) m.whole ∙ sym (next_is cls m.used c.0.1) in
            subst (λ (z : List A × List P). Took (λ k us xs. EachBefore cls R k us xs) ts z) (ok_is (a.0.0 ∷ c.0.0, c.0.1) y c.2)
            (record {
              used = t.used ++ m.used;
              whole = t.whole ∙ ap (λ (v : List P). t.used ++ v) m.whole
                  ∙ sym (append_assoc t.used m.used c.0.1);
              spelled = one_more (subst (λ (j : Option ℕ). R j t.used a.0.0) k t.spelled) m.spelled
                  refl refl;
            })
        | inr b ↦ subst (λ (z : List A × List P). Took (λ k us xs. EachBefore cls R k us xs) ts z) (ok_is ([], ts) y b.1)
            (record { used = []; whole = refl; spelled = no_more refl refl })
      ]

  -- one and then another
  both_taken : {A B : Type 0} (R : Option ℕ → List P → B → Type 0) (S : Option ℕ → List P → B → (B → A) → Type 0) (ts : List P)
      (x : B × List P) (f : (B → A) × List P)
      → Took R ts x → Took (λ k us g. S k us x.0 g) x.1 f → Took (λ k us z. Both cls R S k us z) ts (f.0 x.0, f.1)
  both_taken R S ts x f s t =
      let k : class_at cls x.1 ≡ next cls t.used (class_at cls f.1) = ap (λ (l : List P). class_at cls l) t.whole ∙ sym (next_is cls t.used f.1) in
      record {
        used = s.used ++ t.used;
        whole = s.whole ∙ ap (λ (v : List P). s.used ++ v) t.whole ∙ sym (append_assoc s.used t.used f.1);
        spelled =
            record {
              front = s.used;
              back = t.used;
              means = x.0;
              makes = f.0;
              spelled_front = subst (λ (j : Option ℕ). R j s.used x.0) k s.spelled;
              spelled_back = t.spelled;
              whole = refl;
              meaning = refl;
            };
      }

  module _ {Part : Type 0} {Means : Part → Type 0} (first_of : Part → List ℕ) (says : (p : Part) → Option ℕ → List P → Means p → Type 0)
      (parts : (p : Part) → List P → Read P (Means p)) where
    abbrev Says : {A : Type 0} → Rule Means A → Option ℕ → List P → A → Type 0
    Says r k us x = rule.Spelled cls first_of says r k us x

    abbrev reads : {A : Type 0} → Rule Means A → List P → Read P A
    reads r ts = rule.read cls first_of parts r ts

    abbrev first : {A : Type 0} → Rule Means A → List ℕ
    first r = rule.first first_of r

    -- what each part reads is spelled so
    abbrev pub PartsSound : Type 0
    PartsSound = (p : Part) (ts : List P) (y : Means p × List P) → parts p ts ≡ Ok y → Took (says p) ts y

    nearest_takes : {A : Type 0} (p : Rule Means A) (a : A) (ts : List P) (b : Bool) (y : A × List P) → has (first p) (class_at cls ts) ≡ b
        → (reads p ts ≡ Ok y → Took (λ k us x. Says p k us x) ts y) → (if b then reads p ts else Ok (a, ts)) ≡ Ok y
        → Took (λ k us x. Says (nearest p a) k us x) ts y
    nearest_takes p a ts true y f h e = let t = h e in record { used = t.used; whole = t.whole; spelled = inl t.spelled }
    nearest_takes p a ts false y f h e =
        subst (λ z. Took (λ k us x. Says (nearest p a) k us x) ts z) (ok_is (a, ts) y e)
        (record { used = []; whole = refl; spelled = inr (refl, refl, f) })

    pub takes : {A : Type 0} (r : Rule Means A) (ts : List P) (y : A × List P) → PartsSound → reads r ts ≡ Ok y → Took (λ k us x. Says r k us x) ts y
    unfolding many_of
    takes (done a) ts y h e =
        subst (λ z. Took (λ k us x. Says (done a) k us x) ts z) (ok_is (a, ts) y e)
        (record { used = []; whole = refl; spelled = (refl, refl) })
    takes (skip c p) ts y h e =
        let a = bind_ok (token_at cls c ts) _ y e in
        let f = token_is cls c ts a.0 a.1 in
        let s = takes p a.0 y h a.2 in
        record {
          used = f.token ∷ s.used;
          whole = f.whole ∙ ap (λ (l : List P). f.token ∷ l) s.whole;
          spelled = record
              { token = f.token; rest = s.used; is = f.is; whole = refl; spelled = s.spelled };
        }
    takes (part p) ts y h e = h p ts y e
    takes (and_then p q) ts y h e =
        let a = bind_ok (reads p ts) _ y e in
        let b = bind_ok (reads q a.0.1) _ y a.2 in
        subst (λ z. Took (λ k us x. Says (and_then p q) k us x) ts z) (ok_is (b.0.0 a.0.0, b.0.1) y b.2)
        (both_taken _ _ ts a.0 b.0 (takes p ts a.0 h a.1) (takes q a.0.1 b.0 h b.1))
    takes (either p q) ts y h e =
        elim (chosen (has (first p) (class_at cls ts)) _ _ _ e) [
          | inl b ↦ let t = takes p ts y h b.1 in record { used = t.used; whole = t.whole; spelled = inl t.spelled }
          | inr b ↦ let t = takes q ts y h b.1 in record { used = t.used; whole = t.whole; spelled = inr t.spelled }
        ]
    takes (many p) ts y h e =
        many_takes (λ k us x. Says p k us x) (λ us. has (first p) (class_at cls us)) (λ us. reads p us) (suc (length ts)) ts y
        (λ us x f. takes p us x h f) e
    takes (nearest p a) ts y h e = nearest_takes p a ts (has (first p) (class_at cls ts)) y refl (λ f. takes p ts y h f) e
    takes (by_value f p q r) ts y h e =
        let a = bind_ok (reads p ts) _ y e in
        let b = bind_ok (if f a.0.0 then reads q a.0.1 else reads r a.0.1) _ y a.2 in
        let t : Took (λ k us g. ((f a.0.0 ≡ true) × Says q k us g) ⊎ ((f a.0.0 ≡ false) × Says r k us g)) a.0.1 b.0 = elim (chosen (f a.0.0) _ _ _ b.1) [
          | inl c ↦ let t = takes q a.0.1 b.0 h c.1 in record { used = t.used; whole = t.whole; spelled = inl (c.0, t.spelled) }
          | inr c ↦ let t = takes r a.0.1 b.0 h c.1 in record { used = t.used; whole = t.whole; spelled = inr (c.0, t.spelled) }
        ] in
        subst (λ z. Took (λ k us x. Says (by_value f p q r) k us x) ts z) (ok_is (b.0.0 a.0.0, b.0.1) y b.2)
        (both_taken _ _ ts a.0 b.0 (takes p ts a.0 h a.1) t)
