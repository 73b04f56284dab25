-- With which tokens what a rule says begins.
use Rattle.std.proofs.Common.{◌≡◌, ℕ, ◌<◌, ◌||◌, ◌&&◌, Bool, true, false, if◌then◌else◌, List, [], ◌∷◌, ◌++◌, length, Option, refl, sym, ap, subst}
use Rattle.std.proofs.Common.{◌∙◌, inl, inr, arith, length-append}
use Rattle.std.proofs.lemmas.Bool.{or_right, or_left}
use Rattle.cilk_parse_grammar.specs.Rule as rule
use Rattle.cilk_parse_grammar.specs.Rule.{has, Rule, done, skip, part, and_then, either, many, nearest, by_value, nullable, next, EachBefore, no_more, one_more}
use Rattle.cilk_parse_grammar.proofs.Tokens.{has_append, next_append}

module _ {P : Type 0} (cls : P → ℕ) where
  -- what says this has a token, and begins with one of these classes, unless it may be nothing
  pub data Begun (cs : List ℕ) (null : Bool) (us : List P) : Type 0 where
    with_token : 0 < length us → ((k : Option ℕ) → has cs (next cls us k) ≡ true) → Begun cs null us
    with_nothing : us ≡ [] → null ≡ true → Begun cs null us

  -- one list of tokens behind another
  join_front : (cs ds : List ℕ) (null : Bool) (k : Option ℕ) → has cs k ≡ true → has (if null then cs ++ ds else cs) k ≡ true
  join_front cs ds true k e = has_append cs ds k ∙ or_left (has cs k) (has ds k) e
  join_front cs ds false k e = e

  join_back : (cs ds : List ℕ) (null : Bool) (k : Option ℕ) → null ≡ true → has ds k ≡ true → has (if null then cs ++ ds else cs) k ≡ true
  join_back cs ds true k n e = has_append cs ds k ∙ or_right (has cs k) (has ds k) e
  join_back cs ds false k n e = absurd cc

  both_begun : (cs ds : List ℕ) (n m : Bool) (vs ws : List P) → Begun cs n vs → Begun ds m ws → Begun (if n then cs ++ ds else cs) (n && m) (vs ++ ws)
  both_begun cs ds n m vs ws (with_token lt h) b =
      with_token (omega (arith, lt, length-append vs ws))
      (λ k. ap (λ (j : Option ℕ). has (if n then cs ++ ds else cs) j) (next_append cls vs ws k) ∙ join_front cs ds n _ (h (next cls ws k)))
  both_begun cs ds n m vs ws (with_nothing e i) (with_token lt h) =
      with_token (omega (arith, lt, length-append vs ws))
      (λ k. ap (λ (l : List P). has (if n then cs ++ ds else cs) (next cls (l ++ ws) k)) e ∙ join_back cs ds n _ i (h k))
  both_begun cs ds n m vs ws (with_nothing e i) (with_nothing f j) = with_nothing (rw (e, f) refl) (rw (i, j) refl)

  pub wider : (cs ds : List ℕ) (n m : Bool) (vs : List P) → ((k : Option ℕ) → has cs k ≡ true → has ds k ≡ true) → (n ≡ true → m ≡ true)
      → Begun cs n vs → Begun ds m vs
  wider cs ds n m vs f g (with_token lt h) = with_token lt (λ k. f (next cls vs k) (h k))
  wider cs ds n m vs f g (with_nothing e i) = with_nothing e (g i)

  -- of two choices, as the first or as the second
  pub begun_first : (cs ds : List ℕ) (n m : Bool) (vs : List P) → Begun cs n vs → Begun (cs ++ ds) (n || m) vs
  begun_first cs ds n m vs b = wider cs (cs ++ ds) n (n || m) vs (λ j e. has_append cs ds j ∙ or_left _ _ e) (λ e. or_left _ _ e) b

  pub begun_second : (cs ds : List ℕ) (n m : Bool) (vs : List P) → Begun ds m vs → Begun (cs ++ ds) (n || m) vs
  begun_second cs ds n m vs b = wider ds (cs ++ ds) m (n || m) vs (λ j e. has_append cs ds j ∙ or_right _ _ e) (λ e. or_right _ _ e) b

  each_begun : {A : Type 0} (R : Option ℕ → List P → A → Type 0) (cs : List ℕ) (n : Bool) (k : Option ℕ) (us : List P) (xs : List A)
      → ((j : Option ℕ) (vs : List P) (x : A) → R j vs x → Begun cs n vs) → EachBefore cls R k us xs → Begun cs true us
  each_begun R cs n k us xs h (no_more e i) = with_nothing e refl
  each_begun R cs n k us xs h (one_more {us = vs} {vs = ws} {x = x} {xs = ys} r s e i) =
      subst (λ (l : List P). Begun cs true l) (sym e) (step (h (next cls ws k) vs x r) (each_begun R cs n k ws ys h s))
    where
      step : Begun cs n vs → Begun cs true ws → Begun cs true (vs ++ ws)
      step (with_token lt b) c =
          with_token (omega (arith, lt, length-append vs ws))
          (λ j. ap (λ (i : Option ℕ). has cs i) (next_append cls vs ws j) ∙ b (next cls ws j))
      step (with_nothing f g) c = subst (λ (l : List P). Begun cs true (l ++ ws)) (sym f) c

  module _ {Part : Type 0} {Means : Part → Type 0} (first_of : Part → List ℕ) (says : (p : Part) → Option ℕ → List P → Means p → Type 0) where
    abbrev Says : {A : Type 0} → Rule Means A → Option ℕ → List P → A → Type 0
    Says r k us x = rule.Spelled cls first_of says r k us x

    abbrev first : {A : Type 0} → Rule Means A → List ℕ
    first r = rule.first first_of r

    -- what each part says begins as it is to
    abbrev pub PartsBegin : Type 0
    PartsBegin = (p : Part) (k : Option ℕ) (us : List P) (x : Means p) → says p k us x → Begun (first_of p) false us

    pub begun : {A : Type 0} (r : Rule Means A) (k : Option ℕ) (us : List P) (x : A) → PartsBegin → Says r k us x → Begun (first r) (nullable r) us
    begun (done a) k us x h s = with_nothing s.0 refl
    begun (skip c p) k us x h s = subst (λ (l : List P). Begun (c ∷ []) false l) (sym s.whole) (with_token (omega arith) (λ j. s.is))
    begun (part p) k us x h s = h p k us x s
    begun (and_then p q) k us x h s =
        subst (λ (l : List P). Begun (first (and_then p q)) (nullable (and_then p q)) l) (sym s.whole)
        (both_begun _ _ _ _ s.front s.back (begun p _ s.front s.means h s.spelled_front) (begun q k s.back s.makes h s.spelled_back))
    begun (either p q) k us x h (inl s) = begun_first (first p) (first q) (nullable p) (nullable q) us (begun p k us x h s)
    begun (either p q) k us x h (inr s) = begun_second (first p) (first q) (nullable p) (nullable q) us (begun q k us x h s)
    begun (many p) k us x h s = each_begun _ _ (nullable p) k us x (λ j vs y t. begun p j vs y h t) s
    begun (nearest p a) k us x h (inl s) = wider _ _ _ _ us (λ j e. e) (λ e. refl) (begun p k us x h s)
    begun (nearest p a) k us x h (inr s) = with_nothing s.0 refl
    begun (by_value f p q r) k us x h s =
        subst (λ (l : List P). Begun (first (by_value f p q r)) (nullable (by_value f p q r)) l) (sym s.whole)
        (both_begun _ _ _ _ s.front s.back (begun p _ s.front s.means h s.spelled_front)
        (elim s.spelled_back [
          | inl t ↦ begun_first (first q) (first r) (nullable q) (nullable r) s.back (begun q k s.back s.makes h t.1)
          | inr t ↦ begun_second (first q) (first r) (nullable q) (nullable r) s.back (begun r k s.back s.makes h t.1)
        ]))
