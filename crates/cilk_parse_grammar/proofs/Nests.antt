-- The laws of statements and inlets: by induction on how deep they may stand in one another, from the laws of rules.
use Rattle.std.proofs.Common.{◌≡◌, ℕ, zero, suc, ◌≤◌, true, false, List, [], ◌∷◌, ◌++◌, length, Option, None, Ok, Err, refl, sym, ap, subst, ◌∙◌, inl}
use Rattle.std.proofs.Common.{inr, arith}
use Rattle.cilk_tree_syntax.specs.lexeme.Lexeme.{Piece}
use Rattle.cilk_parse_grammar.specs.declared.fault.Fault.TheVariants.{Unexpected, TooDeep}
use Rattle.cilk_parse_grammar.specs.Rule as rule
use Rattle.cilk_parse_grammar.specs.Rule.{Rule, Read, has, class_at}
use Rattle.cilk_parse_grammar.proofs.RulesTools.{chosen}
use Rattle.cilk_parse_grammar.proofs.Begun as begun
use Rattle.cilk_parse_grammar.proofs.Begun.{Begun}
use Rattle.cilk_parse_grammar.proofs.RulesSound as sound
use Rattle.cilk_parse_grammar.proofs.RulesSound.{Took}
use Rattle.cilk_parse_grammar.proofs.RulesComplete as complete
use Rattle.cilk_parse_grammar.proofs.RulesComplete.{begins_so}
use Rattle.cilk_parse_grammar.proofs.RulesLocal.{SameHead, same_class, Local, local_choice, stuck_here, unexpected, too_deep}
use Rattle.cilk_parse_grammar.proofs.LocalRules as locals
use Rattle.cilk_parse_grammar.proofs.Room as room
use Rattle.cilk_parse_grammar.specs.Classes.{cls}
use Rattle.cilk_parse_grammar.specs.Parts.{Nest, Part, token, an_expr, a_value, nest, NestMeans, Means}
use Rattle.cilk_parse_grammar.specs.Grammar.{rule_of}
use Rattle.cilk_parse_grammar.specs.Spelling.{first_of, more_of, begins, says_by, parts_by, SpellsNest, nest_at, SpellsRule, read_at}
use Rattle.cilk_parse_grammar.proofs.Fine.{rules_fine, rules_begin, rules_take, rules_end}
use Rattle.cilk_parse_grammar.proofs.Leaves.{leaf_begins, leaf_takes, leaf_again, leaf_local}
use Rattle.cilk_parse_grammar.proofs.Exprs.{expr_begins, expr_takes, expr_complete, expr_wider, expr_local}
use Rattle.cilk_parse_grammar.proofs.Values.{value_begins, value_takes, value_again, value_wider}
use Rattle.cilk_parse_grammar.proofs.LocalValues.{value_local}

abbrev pub Inner : Type 1
Inner = (p : Nest) → Option ℕ → List Piece → NestMeans p → Type 0

abbrev pub InnerReader : Type 0
InnerReader = (p : Nest) → List Piece → Read Piece (NestMeans p)

-- ---- all parts, where the laws of statements and inlets are given

module _ (l d : ℕ) where
  pub parts_begin : (inner : Inner)
      → ((p : Nest) (k : Option ℕ) (us : List Piece) (x : NestMeans p) → inner p k us x → Begun cls (begins p) false us)
      → begun.PartsBegin cls first_of (says_by l d inner)
  parts_begin inner h (token t) k us x s = leaf_begins t us x s
  parts_begin inner h an_expr k us x s = expr_begins l d us x s
  parts_begin inner h a_value k us x s = value_begins l d k us x s
  parts_begin inner h (nest p) k us x s = h p k us x s

  pub parts_sound : (inner : Inner) (reader : InnerReader)
      → ((p : Nest) (ts : List Piece) (y : NestMeans p × List Piece) → reader p ts ≡ Ok y → Took cls (λ k us x. inner p k us x) ts y)
      → sound.PartsSound cls first_of (says_by l d inner) (parts_by l d reader)
  parts_sound inner reader h (token t) ts y e = let s = leaf_takes t ts y e in record { used = s.used; whole = s.whole; spelled = s.spelled }
  parts_sound inner reader h an_expr ts y e = let s = expr_takes l d ts y e in record { used = s.used; whole = s.whole; spelled = s.spelled }
  parts_sound inner reader h a_value ts y e = let s = value_takes l d ts y e in record { used = s.used; whole = s.whole; spelled = s.spelled }
  parts_sound inner reader h (nest p) ts y e = let s = h p ts y e in record { used = s.used; whole = s.whole; spelled = s.spelled }

  pub parts_complete : (inner : Inner) (reader : InnerReader)
      →
      ((p : Nest) (us : List Piece) (x : NestMeans p) (rest : List Piece) → inner p (class_at cls rest) us x
      → reader p (us ++ rest) ≡ Ok (x, rest))
      → complete.PartsComplete cls first_of more_of (says_by l d inner) (parts_by l d reader)
  parts_complete inner reader h (token t) us x rest s e = leaf_again t us x rest s
  parts_complete inner reader h an_expr us x rest s e = expr_complete l d us x rest s e
  parts_complete inner reader h a_value us x rest s e = value_again l d us x rest s e
  parts_complete inner reader h (nest p) us x rest s e = h p us x rest s

-- ---- statements and inlets, and any rule

abbrev pub says : ℕ → ℕ → ℕ → (p : Part) → Option ℕ → List Piece → Means p → Type 0
says l d n = says_by l d (λ q j us y. SpellsNest l d n q j us y)

abbrev pub parts : ℕ → ℕ → ℕ → (p : Part) → List Piece → Read Piece (Means p)
parts l d n = parts_by l d (λ q us. nest_at l d n q us)

pub nest_begins : (l d n : ℕ) (p : Nest) (k : Option ℕ) (us : List Piece) (x : NestMeans p) → SpellsNest l d n p k us x → Begun cls (begins p) false us
unfolding SpellsNest
nest_begins l d zero p k us x s = elim s [ ]
nest_begins l d (suc n) p k us x s =
    subst (λ (cs : List ℕ). Begun cls cs false us) (rules_begin p) (subst (λ b. Begun cls (rule.first first_of (rule_of p)) b us) (rules_take p)
    (begun.begun cls first_of (says l d n) (rule_of p) k us x (parts_begin l d _ (nest_begins l d n)) s))

pub begin_at : (l d n : ℕ) → begun.PartsBegin cls first_of (says l d n)
begin_at l d n = parts_begin l d _ (nest_begins l d n)

pub nest_takes : (l d n : ℕ) (p : Nest) (ts : List Piece) (y : NestMeans p × List Piece) → nest_at l d n p ts ≡ Ok y
    → Took cls (λ k us x. SpellsNest l d n p k us x) ts y
unfolding SpellsNest nest_at
nest_takes l d zero p ts y e =
    elim (chosen (has (begins p) (class_at cls ts)) _ _ _ e) [
      | inl b ↦ absurd (let c = b.1 in cc)
      | inr b ↦ absurd (let c = b.1 in cc)
    ]
nest_takes l d (suc n) p ts y e =
    elim (chosen (has (begins p) (class_at cls ts)) _ _ _ e) [
      | inl b ↦ let s =
          sound.takes cls first_of (says l d n) (parts l d n) (rule_of p) ts y (parts_sound l d _ _ (nest_takes l d n)) b.1
          in record { used = s.used; whole = s.whole; spelled = s.spelled }
      | inr b ↦ absurd (let c = b.1 in cc)
    ]

pub sound_at : (l d n : ℕ) → sound.PartsSound cls first_of (says l d n) (parts l d n)
sound_at l d n = parts_sound l d _ _ (nest_takes l d n)

pub rule_takes : {A : Type 0} (l d n : ℕ) (r : Rule Means A) (ts : List Piece) (y : A × List Piece) → read_at l d n r ts ≡ Ok y
    → Took cls (λ k us x. SpellsRule l d n r k us x) ts y
unfolding read_at
rule_takes l d n r ts y e =
    let s = sound.takes cls first_of (says l d n) (parts l d n) r ts y (sound_at l d n) e
    in record { used = s.used; whole = s.whole; spelled = s.spelled }

nothing_more : (p : Nest) (k : Option ℕ) → has (rule.more first_of more_of (rule_of p)) k ≡ false
nothing_more p k = ap (λ (cs : List ℕ). has cs k) (rules_end p)

pub nest_again : (l d n : ℕ) (p : Nest) (us : List Piece) (x : NestMeans p) (rest : List Piece)
    → SpellsNest l d n p (class_at cls rest) us x → nest_at l d n p (us ++ rest) ≡ Ok (x, rest)
unfolding SpellsNest nest_at
nest_again l d zero p us x rest s = elim s [ ]
nest_again l d (suc n) p us x rest s =
    let k = begins_so cls (begins p) false us rest (nest_begins l d (suc n) p (class_at cls rest) us x s) refl in
    rw k.1
    (complete.complete cls first_of more_of (says l d n) (parts l d n) (rule_of p) us x rest (begin_at l d n)
    (parts_complete l d _ _ (nest_again l d n)) (rules_fine p) s (nothing_more p (class_at cls rest)))

pub rule_again : {A : Type 0} (l d n : ℕ) (r : Rule Means A) (us : List Piece) (x : A) (rest : List Piece)
    → rule.fine first_of more_of r ≡ true → SpellsRule l d n r (class_at cls rest) us x
    → has (rule.more first_of more_of r) (class_at cls rest) ≡ false → read_at l d n r (us ++ rest) ≡ Ok (x, rest)
unfolding read_at
rule_again l d n r us x rest f s e =
    complete.complete cls first_of more_of (says l d n) (parts l d n) r us x rest (begin_at l d n)
    (parts_complete l d _ _ (nest_again l d n)) f s e

-- ---- wider limits

pub parts_wider : (l l' d d' : ℕ) → l ≤ l' → d ≤ d' → (inner inner' : Inner)
    → ((p : Nest) (k : Option ℕ) (us : List Piece) (x : NestMeans p) → inner p k us x → inner' p k us x)
    → (p : Part) (k : Option ℕ) (us : List Piece) (x : Means p) → says_by l d inner p k us x → says_by l' d' inner' p k us x
parts_wider l l' d d' le le' inner inner' h (token t) k us x s = s
parts_wider l l' d d' le le' inner inner' h an_expr k us x s = expr_wider l l' d d' le le' us x s
parts_wider l l' d d' le le' inner inner' h a_value k us x s = value_wider l l' d d' le le' k us x s
parts_wider l l' d d' le le' inner inner' h (nest p) k us x s = h p k us x s

pub nest_wider : (l l' d d' n n' : ℕ) → l ≤ l' → d ≤ d' → n ≤ n' → (p : Nest) (k : Option ℕ) (us : List Piece) (x : NestMeans p)
    → SpellsNest l d n p k us x → SpellsNest l' d' n' p k us x
unfolding SpellsNest
nest_wider l l' d d' zero n' le le' lt p k us x s = elim s [ ]
nest_wider l l' d d' (suc n) zero le le' lt p k us x s = absurd (omega (arith, lt))
nest_wider l l' d d' (suc n) (suc n') le le' lt p k us x s =
    room.wider cls first_of (says l d n) (says l' d' n')
    (parts_wider l l' d d' le le' _ _ (nest_wider l l' d d' n n' le le' (omega (arith, lt)))) (rule_of p) k us x s

pub rule_wider : {A : Type 0} (l l' d d' n n' : ℕ) → l ≤ l' → d ≤ d' → n ≤ n' → (r : Rule Means A) (k : Option ℕ) (us : List Piece) (x : A)
    → SpellsRule l d n r k us x → SpellsRule l' d' n' r k us x
rule_wider l l' d d' n n' le le' lt r k us x s =
    room.wider cls first_of (says l d n) (says l' d' n') (parts_wider l l' d d' le le' _ _ (nest_wider l l' d d' n n' le le' lt)) r k us x s

-- ---- where reading stops

pub nothing_follows : (cs : List ℕ) → has cs None ≡ false
nothing_follows [] = refl
nothing_follows (c ∷ []) = refl
nothing_follows (c ∷ d ∷ cs) = nothing_follows (d ∷ cs)

-- a class that is there is that of a token
some_follow : (cs : List ℕ) (ts : List Piece) → has cs (class_at cls ts) ≡ true → 1 ≤ length ts
some_follow cs [] e = let none : true ≡ false = sym e ∙ nothing_follows cs in absurd cc
some_follow cs (t ∷ ts) e = omega arith

module _ (same : Type 0) (l l' d d' : ℕ) (le : l ≤ l') (le' : d ≤ d') (eq : same → l ≡ l') (eq' : same → d ≡ d') where
  parts_local : (reader reader' : InnerReader) → ((p : Nest) (ts : List Piece) → Local {A = NestMeans p} same ts (reader p ts) (λ us. reader' p us))
      → (p : Part) (ts : List Piece) → Local {A = Means p} same ts (parts_by l d reader p ts) (λ us. parts_by l' d' reader' p us)
  parts_local reader reader' h (token t) ts = leaf_local same t ts
  parts_local reader reader' h an_expr ts = expr_local same l l' d d' le le' eq eq' ts
  parts_local reader reader' h a_value ts = value_local same l l' d d' le le' eq eq' ts
  parts_local reader reader' h (nest p) ts = h p ts

  heads : (p : Nest) (ts us : List Piece) → SameHead ts us → has (begins p) (class_at cls us) ≡ has (begins p) (class_at cls ts)
  heads p ts us s = ap (has (begins p)) (sym (same_class cls ts us s))

  abbrev inside : ℕ → (p : Nest) → List Piece → Read Piece (NestMeans p)
  inside n p us = rule.read cls first_of (parts l' d' n) (rule_of p) us

  pub nest_local : (n n' : ℕ) → n ≤ n' → (same → n ≡ n') → (p : Nest) (ts : List Piece)
      → Local {A = NestMeans p} same ts (nest_at l d n p ts) (λ us. nest_at l' d' n' p us)
  unfolding nest_at
  nest_local zero zero lt h p ts =
      local_choice same (λ us. has (begins p) (class_at cls us)) ts _ _ _ (λ us. Err (TooDeep (length us)))
      (λ us. Err (Unexpected (length us))) (heads p ts) refl
      (λ e s. (stuck_here too_deep ts _ (λ us t. refl), some_follow (begins p) ts e)) (λ e. stuck_here unexpected ts _ (λ us t. refl))
  nest_local zero (suc n') lt h p ts =
      local_choice same (λ us. has (begins p) (class_at cls us)) ts _ _ _ (λ us. inside n' p us) (λ us. Err (Unexpected (length us))) (heads p ts) refl
      (λ e s. absurd (omega (arith, h s))) (λ e. stuck_here unexpected ts _ (λ us t. refl))
  nest_local (suc n) zero lt h p ts = absurd (omega (arith, lt))
  nest_local (suc n) (suc n') lt h p ts =
      local_choice same (λ us. has (begins p) (class_at cls us)) ts _ _ _ (λ us. inside n' p us) (λ us. Err (Unexpected (length us))) (heads p ts) refl
      (λ e. locals.local cls first_of more_of same (says l d n) (says l' d' n') (parts l d n) (parts l' d' n') (begin_at l d n)
      (begin_at l' d' n') (sound_at l d n) (sound_at l' d' n')
      (parts_local (λ q us. nest_at l d n q us) (λ q us. nest_at l' d' n' q us)
      (nest_local n n' (omega (arith, lt)) (λ s. omega (arith, h s)))) (rule_of p) ts (rules_fine p))
      (λ e. stuck_here unexpected ts _ (λ us t. refl))

  pub rule_local : {A : Type 0} (n n' : ℕ) → n ≤ n' → (same → n ≡ n') → (r : Rule Means A) (ts : List Piece)
      → rule.fine first_of more_of r ≡ true → Local {A = A} same ts (read_at l d n r ts) (λ us. read_at l' d' n' r us)
  unfolding read_at
  rule_local n n' lt h r ts f =
      locals.local cls first_of more_of same (says l d n) (says l' d' n') (parts l d n) (parts l' d' n') (begin_at l d n)
      (begin_at l' d' n') (sound_at l d n) (sound_at l' d' n')
      (parts_local (λ q us. nest_at l d n q us) (λ q us. nest_at l' d' n' q us) (nest_local n n' lt h)) r ts f
