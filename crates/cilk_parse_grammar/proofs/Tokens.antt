-- Tokens, and lists of their classes.
use Rattle.std.proofs.Common.{◌≡◌, ℕ, ◌==◌, ◌||◌, not, Bool, true, false, List, [], ◌∷◌, ◌++◌, Option, Some, None, Result, Ok, refl, sym, ap, ◌∙◌, eq-eqb}
use Rattle.std.proofs.lemmas.Bool.{eqb-true, and_parts, or_right, or_left, not-true}
use Rattle.std.proofs.Math.Bool.{or-false, or_assoc}
use Rattle.cilk_parse_grammar.specs.declared.fault.Fault.{Fault}
use Rattle.cilk_parse_grammar.specs.Rule.{is, has, among, apart, behind, wanted, class_at, next, token_at}

-- ---- lists of classes

has_one : (c : ℕ) (cs : List ℕ) (k : Option ℕ) → has (c ∷ cs) k ≡ (is c k || has cs k)
has_one c [] k = sym (or-false (is c k))
has_one c (d ∷ cs) k = refl

pub has_append : (cs ds : List ℕ) (k : Option ℕ) → has (cs ++ ds) k ≡ (has cs k || has ds k)
has_append [] ds k = refl
has_append (c ∷ cs) ds k =
    has_one c (cs ++ ds) k ∙ ap (λ b. is c k || b) (has_append cs ds k) ∙ sym (or_assoc (is c k) (has cs k) (has ds k))
    ∙ ap (λ b. b || has ds k) (sym (has_one c cs k))

-- a token is of one class
same_by : (c d : ℕ) (k : Option ℕ) → is c k ≡ true → is d k ≡ true → (c == d) ≡ true
same_by c d (Some e) h i = eq-eqb c d (eqb-true c e h ∙ sym (eqb-true d e i))
same_by c d None h i = absurd cc

among_by : (c : ℕ) (ds : List ℕ) (k : Option ℕ) → is c k ≡ true → has ds k ≡ true → among c ds ≡ true
among_by c [] k e h = absurd cc
among_by c (d ∷ ds) k e h = first (is d k) refl (λ f. among_by c ds k e f)
  where
    first : (b : Bool) → is d k ≡ b → (has ds k ≡ true → among c ds ≡ true) → (c == d || among c ds) ≡ true
    first true f again = or_left (c == d) (among c ds) (same_by c d k e f)
    first false f again = or_right (c == d) (among c ds) (again (ap (λ b. b || has ds k) (sym f) ∙ sym (has_one d ds k) ∙ h))

pub apart_has : (cs ds : List ℕ) (k : Option ℕ) → apart cs ds ≡ true → has ds k ≡ true → has cs k ≡ false
apart_has [] ds k e h = refl
apart_has (c ∷ cs) ds k e h =
    let parts = and_parts (not (among c ds)) (apart cs ds) e in
    has_one c cs k ∙ first (is c k) refl parts.0 (apart_has cs ds k parts.1 h)
  where
    first : (b : Bool) → is c k ≡ b → not (among c ds) ≡ true → has cs k ≡ false → (is c k || has cs k) ≡ false
    first true f n again = let both : true ≡ false = sym (among_by c ds k f h) ∙ not-true (among c ds) n in absurd cc
    first false f n again = ap (λ b. b || has cs k) f ∙ again

-- ---- the next token

module _ {P : Type 0} (cls : P → ℕ) where
  abbrev as_ok : {A : Type 0} → A → Result A Fault
  as_ok x = Ok x

  wanted_is : (b : Bool) (ts us : List P) → wanted b ts ≡ as_ok us → (b ≡ true) × (behind ts ≡ us)
  wanted_is true ts us e = (refl, cc)
  wanted_is false ts us e = absurd cc

  -- a token of this class stands in front
  pub record Front (c : ℕ) (ts us : List P) : Type 0 where
    pub token : P
    pub is : is c (Some (cls token)) ≡ true
    pub whole : ts ≡ token ∷ us

  pub token_is : (c : ℕ) (ts us : List P) → token_at cls c ts ≡ Ok us → Front c ts us
  token_is c [] us e = absurd (let w = wanted_is false [] us e in let both : false ≡ true = w.0 in cc)
  token_is c (t ∷ ts) us e = let w = wanted_is (is c (Some (cls t))) (t ∷ ts) us e in record { token = t; is = w.0; whole = ap (λ (l : List P). t ∷ l) w.1 }

  pub token_here : (c : ℕ) (t : P) (us : List P) → is c (Some (cls t)) ≡ true → token_at cls c (t ∷ us) ≡ Ok us
  token_here c t us e = ap (λ b. wanted b (t ∷ us)) e

  -- what comes first
  pub next_is : (us rest : List P) → next cls us (class_at cls rest) ≡ class_at cls (us ++ rest)
  next_is [] rest = refl
  next_is (u ∷ us) rest = refl

  pub next_append : (us vs : List P) (k : Option ℕ) → next cls (us ++ vs) k ≡ next cls us (next cls vs k)
  next_append [] vs k = refl
  next_append (u ∷ us) vs k = refl
