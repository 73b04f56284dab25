-- What a rule says is read again, in front of anything that is not read as more of it.
use Rattle.std.proofs.Common.{◌≡◌, ℕ, zero, suc, ◌<◌, ◌||◌, not, Bool, true, false, if◌then◌else◌, List, ◌++◌, length, Option, Ok, refl, sym, ap}
use Rattle.std.proofs.Common.{subst, ◌∙◌, inl, inr, append_assoc, arith, length-append}
use Rattle.std.proofs.lemmas.Bool.{and_parts, or_parts, not-true}
use Rattle.cilk_parse_grammar.specs.Rule as rule
use Rattle.cilk_parse_grammar.specs.Rule.{◌>>=◌, has, apart, class_at, token_at, Rule, done, skip, part, and_then, either, many, nearest, by_value}
use Rattle.cilk_parse_grammar.specs.Rule.{nullable, next, EachBefore, no_more, one_more, Read, many_in, many_of}
use Rattle.cilk_parse_grammar.proofs.Tokens.{has_append, apart_has, token_here, next_is}
use Rattle.cilk_parse_grammar.proofs.Begun as begun
use Rattle.cilk_parse_grammar.proofs.Begun.{Begun, with_token, with_nothing, begun_first, begun_second}

module _ {P : Type 0} (cls : P → ℕ) where
  -- what follows is not in these, where it begins what comes next or, where that is nothing, is not in these either
  stops : (cs ds es : List ℕ) (n : Bool) (ws rest : List P) → Begun cls ds n ws → apart cs ds ≡ true
      → has (if n then es ++ cs else es) (class_at cls rest) ≡ false → has cs (class_at cls (ws ++ rest)) ≡ false
  stops cs ds es n ws rest (with_token lt h) a e =
      apart_has cs ds (class_at cls (ws ++ rest)) a (ap (λ (k : Option ℕ). has ds k) (sym (next_is cls ws rest)) ∙ h (class_at cls rest))
  stops cs ds es true ws rest (with_nothing w i) a e =
      ap (λ (l : List P). has cs (class_at cls (l ++ rest))) w
      ∙ (or_parts (has es (class_at cls rest)) (has cs (class_at cls rest)) (sym (has_append es cs (class_at cls rest)) ∙ e)).1
  stops cs ds es false ws rest (with_nothing w i) a e = absurd cc

  last_stops : (cs es : List ℕ) (n : Bool) (k : Option ℕ) → has (if n then es ++ cs else es) k ≡ false → has es k ≡ false
  last_stops cs es true k e = (or_parts (has es k) (has cs k) (sym (has_append es cs k) ∙ e)).0
  last_stops cs es false k e = e

  -- the tokens begin so
  pub begins_so : (cs : List ℕ) (n : Bool) (us rest : List P) → Begun cls cs n us → n ≡ false → (0 < length us) × (has cs (class_at cls (us ++ rest)) ≡ true)
  begins_so cs n us rest (with_token lt h) e = (lt, ap (λ (k : Option ℕ). has cs k) (sym (next_is cls us rest)) ∙ h (class_at cls rest))
  begins_so cs n us rest (with_nothing w i) e = absurd (let both : true ≡ false = sym i ∙ e in cc)

  -- the tokens do not begin as the other choice does
  begins_not : (cs ds : List ℕ) (n : Bool) (vs rest : List P) → Begun cls ds n vs → apart ds cs ≡ true
      → (n ≡ true → has cs (class_at cls rest) ≡ false) → has cs (class_at cls (vs ++ rest)) ≡ false
  begins_not cs ds n vs rest (with_token lt h) a e =
      let f : has ds (class_at cls (vs ++ rest)) ≡ true = ap (λ (k : Option ℕ). has ds k) (sym (next_is cls vs rest)) ∙ h (class_at cls rest) in
      by (has cs (class_at cls (vs ++ rest))) refl f
    where
      by : (b : Bool) → has cs (class_at cls (vs ++ rest)) ≡ b → has ds (class_at cls (vs ++ rest)) ≡ true → has cs (class_at cls (vs ++ rest)) ≡ false
      by true g f = absurd (let both : true ≡ false = sym f ∙ apart_has ds cs (class_at cls (vs ++ rest)) a g in cc)
      by false g f = g
  begins_not cs ds n vs rest (with_nothing w i) a e = ap (λ (l : List P). has cs (class_at cls (l ++ rest))) w ∙ e i

  -- ---- one after another

  many_again : {A : Type 0} (R : Option ℕ → List P → A → Type 0) (cs more : List ℕ) (one : List P → Read P A)
      → ((k : Option ℕ) (us : List P) (x : A) → R k us x → Begun cls cs false us)
      → ((us : List P) (x : A) (rest : List P) → R (class_at cls rest) us x → has more (class_at cls rest) ≡ false → one (us ++ rest) ≡ Ok (x, rest))
      → apart more cs ≡ true → (n : ℕ) (us : List P) (xs : List A) (rest : List P) → EachBefore cls R (class_at cls rest) us xs
      → length us < n → has cs (class_at cls rest) ≡ false → has more (class_at cls rest) ≡ false
      → many_in n (λ vs. has cs (class_at cls vs)) one (us ++ rest) ≡ Ok (xs, rest)
  unfolding many_in
  many_again R cs more one b a p zero us xs rest s lt e m = absurd (omega (arith, lt))
  many_again R cs more one b a p (suc n) us xs rest (no_more i w) lt e m = rw (i, w, e) refl
  many_again {A = A} R cs more one b a p (suc n) us xs rest (one_more {us = vs} {vs = ws} {x = x} {xs = ys} r i h w) lt e m =
      let shape : us ++ rest ≡ vs ++ (ws ++ rest) = ap (λ (v : List P). v ++ rest) h ∙ append_assoc vs ws rest in
      let k = begins_so cs false vs (ws ++ rest) (b _ vs x r) refl in
      let first = a vs x (ws ++ rest) (subst (λ (j : Option ℕ). R j vs x) (next_is cls ws rest) r) (follows ws ys i) in
      let second = many_again R cs more one b a p n ws ys rest i (omega (arith, lt, ap length h, length-append vs ws, k.0)) e m in
      ap (λ (v : List P). many_in (suc n) (λ vs. has cs (class_at cls vs)) one v) shape ∙ rw (k.1, first, second, w) refl
    where
      follows : (ws : List P) (ys : List A) → EachBefore cls R (class_at cls rest) ws ys → has more (class_at cls (ws ++ rest)) ≡ false
      follows ws ys (no_more i w) = ap (λ (l : List P). has more (class_at cls (l ++ rest))) i ∙ m
      follows ws ys (one_more {us = us'} {vs = vs'} {x = z} r j h w) =
          let k = begins_so cs false us' (vs' ++ rest) (b _ us' z r) refl in
          ap (λ (l : List P). has more (class_at cls (l ++ rest))) h
          ∙ ap (λ (l : List P). has more (class_at cls l)) (append_assoc us' vs' rest)
          ∙ apart_has more cs (class_at cls (us' ++ (vs' ++ rest))) p k.1

  chosen_first : {A : Type 0} (cs : List ℕ) (a b : Read P A) (us : List P) (z : Read P A) → has cs (class_at cls us) ≡ true → a ≡ z
      → (if has cs (class_at cls us) then a else b) ≡ z
  chosen_first cs a b us z e h = rw e h

  chosen_second : {A : Type 0} (cs : List ℕ) (a b : Read P A) (us : List P) (z : Read P A) → has cs (class_at cls us) ≡ false → b ≡ z
      → (if has cs (class_at cls us) then a else b) ≡ z
  chosen_second cs a b us z e h = rw e h

  module _ {Part : Type 0} {Means : Part → Type 0} (first_of more_of : Part → List ℕ)
      (says : (p : Part) → Option ℕ → List P → Means p → Type 0) (parts : (p : Part) → List P → Read P (Means p)) where
    abbrev Says : {A : Type 0} → Rule Means A → Option ℕ → List P → A → Type 0
    Says r k us x = rule.Spelled cls first_of says r k us x

    abbrev reads : {A : Type 0} → Rule Means A → List P → Read P A
    reads r ts = rule.read cls first_of parts r ts

    abbrev first : {A : Type 0} → Rule Means A → List ℕ
    first r = rule.first first_of r

    abbrev more : {A : Type 0} → Rule Means A → List ℕ
    more r = rule.more first_of more_of r

    abbrev fine : {A : Type 0} → Rule Means A → Bool
    fine r = rule.fine first_of more_of r

    abbrev PartsBegin : Type 0
    PartsBegin = begun.PartsBegin cls first_of says

    -- what each part says is read again
    abbrev pub PartsComplete : Type 0
    PartsComplete =
        (p : Part) (us : List P) (x : Means p) (rest : List P) → says p (class_at cls rest) us x
        → has (more_of p) (class_at cls rest) ≡ false → parts p (us ++ rest) ≡ Ok (x, rest)

    begun_by : {A : Type 0} (r : Rule Means A) (k : Option ℕ) (us : List P) (x : A) → PartsBegin → Says r k us x → Begun cls (first r) (nullable r) us
    begun_by r k us x b s = begun.begun cls first_of says r k us x b s

    choice_first : (n : Bool) (cs ds es : List ℕ) (k : Option ℕ) → has (if n then cs ++ (ds ++ es) else ds ++ es) k ≡ false
        → (has ds k ≡ false) × (has es k ≡ false) × (n ≡ true → has cs k ≡ false)
    choice_first true cs ds es k e =
        let a = or_parts (has cs k) (has (ds ++ es) k) (sym (has_append cs (ds ++ es) k) ∙ e) in
        let b = or_parts (has ds k) (has es k) (sym (has_append ds es k) ∙ a.1) in
        (b.0, b.1, λ h. a.0)
    choice_first false cs ds es k e = let b = or_parts (has ds k) (has es k) (sym (has_append ds es k) ∙ e) in (b.0, b.1, λ h. absurd cc)

    pub complete : {A : Type 0} (r : Rule Means A) (us : List P) (x : A) (rest : List P) → PartsBegin → PartsComplete → fine r ≡ true
        → Says r (class_at cls rest) us x → has (more r) (class_at cls rest) ≡ false → reads r (us ++ rest) ≡ Ok (x, rest)
    unfolding many_of
    complete (done a) us x rest b c f s e = rw (s.0, s.1) refl
    complete (skip t p) us x rest b c f s e =
        ap (λ (l : List P). token_at cls t (l ++ rest) >>= λ v. reads p v) s.whole
        ∙ ap (λ r. r >>= λ v. reads p v) (token_here cls t s.token (s.rest ++ rest) s.is) ∙ complete p s.rest x rest b c f s.spelled e
    complete (part p) us x rest b c f s e = c p us x rest s e
    complete (and_then p q) us x rest b c f s e =
        let g = and_parts (fine p) _ f in
        let h = and_parts (fine q) _ g.1 in
        let one = complete p s.front s.means (s.back ++ rest) b c g.0
        (subst (λ (k : Option ℕ). Says p k s.front s.means) (next_is cls s.back rest) s.spelled_front)
        (stops (more p) (first q) (more q) (nullable q) s.back rest (begun_by q (class_at cls rest) s.back s.makes b s.spelled_back) h.1 e) in
        let two = complete q s.back s.makes rest b c h.0 s.spelled_back (last_stops (more p) (more q) (nullable q) (class_at cls rest) e) in
        ap (λ (l : List P). reads (and_then p q) (l ++ rest)) s.whole ∙ ap (λ (l : List P). reads (and_then p q) l) (append_assoc s.front s.back rest)
        ∙ ap (λ r. r >>= λ v. reads q v.1 >>= λ w. Ok (w.0 v.0, w.1)) one ∙ ap (λ r. r >>= λ w. Ok (w.0 s.means, w.1)) two
        ∙ ap (λ y. Ok (y, rest)) (sym s.meaning)
    complete (either p q) us x rest b c f (inl s) e =
        let g = and_parts (fine p) _ f in
        let h = and_parts (fine q) _ g.1 in
        let i = and_parts (not (nullable p)) _ h.1 in
        let k = begins_so (first p) (nullable p) us rest (begun_by p (class_at cls rest) us x b s) (not-true (nullable p) i.0) in
        chosen_first (first p) _ _ (us ++ rest) _ k.1
        (complete p us x rest b c g.0 s (choice_first (nullable q) (first p) (more p) (more q) (class_at cls rest) e).0)
    complete (either p q) us x rest b c f (inr s) e =
        let g = and_parts (fine p) _ f in
        let h = and_parts (fine q) _ g.1 in
        let i = and_parts (not (nullable p)) _ h.1 in
        let w = choice_first (nullable q) (first p) (more p) (more q) (class_at cls rest) e in
        chosen_second (first p) _ _ (us ++ rest) _
        (begins_not (first p) (first q) (nullable q) us rest (begun_by q (class_at cls rest) us x b s) i.1 w.2)
        (complete q us x rest b c h.0 s w.1)
    complete (many p) us x rest b c f s e =
        let g = and_parts (fine p) _ f in
        let h = and_parts (not (nullable p)) _ g.1 in
        let w = or_parts (has (first p) (class_at cls rest)) (has (more p) (class_at cls rest)) (sym (has_append (first p) (more p) (class_at cls rest)) ∙ e) in
        many_again (λ k vs y. Says p k vs y) (first p) (more p) (λ vs. reads p vs)
        (λ k vs y t. subst (λ (n : Bool). Begun cls (first p) n vs) (not-true (nullable p) h.0) (begun_by p k vs y b t))
        (λ vs y more_rest t m. complete p vs y more_rest b c g.0 t m) h.1
        (suc (length (us ++ rest))) us x rest s (omega (arith, length-append us rest)) w.0 w.1
    complete (nearest p a) us x rest b c f (inl s) e =
        let g = and_parts (fine p) _ f in
        let k = begins_so (first p) (nullable p) us rest (begun_by p (class_at cls rest) us x b s) (not-true (nullable p) g.1) in
        chosen_first (first p) _ _ (us ++ rest) _ k.1 (complete p us x rest b c g.0 s e)
    complete (nearest p a) us x rest b c f (inr s) e =
        ap (λ (l : List P). reads (nearest p a) (l ++ rest)) s.0 ∙ chosen_second (first p) _ _ rest _ s.2 (ap (λ y. Ok (y, rest)) (sym s.1))
    complete (by_value f p q r) us x rest b c g s e =
        let h = and_parts (fine p) _ g in
        let i = and_parts (fine q) _ h.1 in
        let j = and_parts (fine r) _ i.1 in
        let m : has (more q ++ more r) (class_at cls rest) ≡ false = last_stops (more p) (more q ++ more r) (nullable q || nullable r) (class_at cls rest) e in
        let w = or_parts (has (more q) (class_at cls rest)) (has (more r) (class_at cls rest)) (sym (has_append (more q) (more r) (class_at cls rest)) ∙ m) in
        let begins : Begun cls (first q ++ first r) (nullable q || nullable r) s.back = elim s.spelled_back [
          | inl t ↦ begun_first cls (first q) (first r) (nullable q) (nullable r) s.back (begun_by q (class_at cls rest) s.back s.makes b t.1)
          | inr t ↦ begun_second cls (first q) (first r) (nullable q) (nullable r) s.back (begun_by r (class_at cls rest) s.back s.makes b t.1)
        ] in
        let one = complete p s.front s.means (s.back ++ rest) b c h.0
        (subst (λ (k : Option ℕ). Says p k s.front s.means) (next_is cls s.back rest) s.spelled_front)
        (stops (more p) (first q ++ first r) (more q ++ more r) (nullable q || nullable r) s.back rest begins j.1 e) in
        let two : (if f s.means then reads q (s.back ++ rest) else reads r (s.back ++ rest)) ≡ Ok (s.makes, rest) = elim s.spelled_back [
          | inl t ↦ rw (t.0) (complete q s.back s.makes rest b c i.0 t.1 w.0)
          | inr t ↦ rw (t.0) (complete r s.back s.makes rest b c j.0 t.1 w.1)
        ] in
        ap (λ (l : List P). reads (by_value f p q r) (l ++ rest)) s.whole ∙ ap (λ (l : List P). reads (by_value f p q r) l) (append_assoc s.front s.back rest)
        ∙ ap (λ a. a >>= λ v. (if f v.0 then reads q v.1 else reads r v.1) >>= λ w. Ok (w.0 v.0, w.1)) one
        ∙ ap (λ a. a >>= λ w. Ok (w.0 s.means, w.1)) two ∙ ap (λ y. Ok (y, rest)) (sym s.meaning)
