-- What reading by a rule meets depends on the tokens through the next one alone.
use Rattle.std.proofs.Common.{◌≡◌, ℕ, not, Bool, true, false, if◌then◌else◌, List, length, Option, Ok, refl, sym, ap, arith, length-append}
use Rattle.std.proofs.lemmas.Bool.{and_parts, not-true}
use Rattle.cilk_parse_grammar.specs.Rule as rule
use Rattle.cilk_parse_grammar.specs.Rule.{◌>>=◌, has, class_at, behind, Rule, done, skip, part, and_then, either, many, nearest, by_value, nullable, Read}
use Rattle.cilk_parse_grammar.proofs.Begun as begun
use Rattle.cilk_parse_grammar.proofs.RulesSound as sound
use Rattle.cilk_parse_grammar.proofs.RulesComplete.{begins_so}
use Rattle.cilk_parse_grammar.proofs.RulesLocal.{SameHead, same_class, Local, local_bind, local_token, local_choice, local_either, ok_here}
use Rattle.cilk_parse_grammar.proofs.Many.{Shortens, local_many}

module _ {P : Type 0} (cls : P → ℕ) {Part : Type 0} {Means : Part → Type 0} (first_of : Part → List ℕ) where
  -- a rule that begins with a token takes one
  pub shorter : {A : Type 0} (says : (p : Part) → Option ℕ → List P → Means p → Type 0) (parts : (p : Part) → List P → Read P (Means p)) (r : Rule Means A)
      → begun.PartsBegin cls first_of says → sound.PartsSound cls first_of says parts → nullable r ≡ false → Shortens (λ us. rule.read cls first_of parts r us)
  shorter says parts r b h n us y e =
      let t = sound.takes cls first_of says parts r us y h e in
      let k = begins_so cls _ _ t.used y.1 (begun.begun cls first_of says r _ t.used y.0 b t.spelled) n in
      omega (arith, k.0, ap length t.whole, length-append t.used y.1)

  module _ (more_of : Part → List ℕ) (same : Type 0) (says says' : (p : Part) → Option ℕ → List P → Means p → Type 0)
      (parts parts' : (p : Part) → List P → Read P (Means p))
      (b : begun.PartsBegin cls first_of says) (b' : begun.PartsBegin cls first_of says') (h : sound.PartsSound cls first_of says parts)
      (h' : sound.PartsSound cls first_of says' parts')
      (l : (p : Part) (ts : List P) → Local {A = Means p} same ts (parts p ts) (λ us. parts' p us)) where
    abbrev reads : {A : Type 0} → Rule Means A → List P → Read P A
    reads r ts = rule.read cls first_of parts r ts

    abbrev reads' : {A : Type 0} → Rule Means A → List P → Read P A
    reads' r ts = rule.read cls first_of parts' r ts

    abbrev wants : {A : Type 0} → Rule Means A → List P → Bool
    wants r us = has (rule.first first_of r) (class_at cls us)

    heads : {A : Type 0} (r : Rule Means A) (ts us : List P) → SameHead ts us → wants r us ≡ wants r ts
    heads r ts us s = ap (has (rule.first first_of r)) (sym (same_class cls ts us s))

    abbrev fine : {A : Type 0} → Rule Means A → Bool
    fine r = rule.fine first_of more_of r

    pub local : {A : Type 0} (r : Rule Means A) (ts : List P) → fine r ≡ true → Local {A = A} same ts (reads r ts) (λ us. reads' r us)
    local (done a) ts f = ok_here a ts _ (λ us s. refl)
    local (skip c p) ts f = local_token same cls c ts (λ us. reads p us) (λ us. reads' p us) (local p (behind ts) f)
    local (part p) ts f = l p ts
    local (and_then p q) ts f =
        let g = and_parts (fine p) _ f in
        let i = and_parts (fine q) _ g.1 in
        local_bind same ts (reads p ts) (λ us. reads' p us) (λ x. reads q x.1 >>= λ f. Ok (f.0 x.0, f.1))
        (λ x. reads' q x.1 >>= λ f. Ok (f.0 x.0, f.1)) (local p ts g.0)
        (λ x e. local_bind same x.1 (reads q x.1) (λ us. reads' q us) (λ f. Ok (f.0 x.0, f.1)) (λ f. Ok (f.0 x.0, f.1)) (local q x.1 i.0)
        (λ f e. ok_here (f.0 x.0) f.1 _ (λ us s. refl)))
    local (either p q) ts f =
        let g = and_parts (fine p) _ f in
        let i = and_parts (fine q) _ g.1 in
        local_choice same (wants p) ts _ (reads p ts) (reads q ts) (λ us. reads' p us) (λ us. reads' q us) (heads p ts) refl
        (λ e. local p ts g.0) (λ e. local q ts i.0)
    local (many p) ts f =
        let g = and_parts (fine p) _ f in
        let i = and_parts (not (nullable p)) _ g.1 in
        let n = not-true _ i.0 in
        local_many same (wants p) (heads p) (λ us. reads p us) (λ us. reads' p us) (shorter says parts p b h n)
        (shorter says' parts' p b' h' n) (λ us. local p us g.0) ts
    local (nearest p a) ts f =
        let g = and_parts (fine p) _ f in
        local_choice same (wants p) ts _ (reads p ts) (Ok (a, ts)) (λ us. reads' p us) (λ us. Ok (a, us)) (heads p ts) refl
        (λ e. local p ts g.0) (λ e. ok_here a ts _ (λ us s. refl))
    local (by_value v p q r) ts f =
        let g = and_parts (fine p) _ f in
        let i = and_parts (fine q) _ g.1 in
        let j = and_parts (fine r) _ i.1 in
        local_bind same ts (reads p ts) (λ us. reads' p us) (λ x. (if v x.0 then reads q x.1 else reads r x.1) >>= λ f. Ok (f.0 x.0, f.1))
        (λ x. (if v x.0 then reads' q x.1 else reads' r x.1) >>= λ f. Ok (f.0 x.0, f.1)) (local p ts g.0)
        (λ x e. local_bind same x.1 (if v x.0 then reads q x.1 else reads r x.1) (λ us. if v x.0 then reads' q us else reads' r us)
        (λ f. Ok (f.0 x.0, f.1)) (λ f. Ok (f.0 x.0, f.1))
        (local_either same x.1 (v x.0) (reads q x.1) (reads r x.1) (λ us. reads' q us) (λ us. reads' r us) (local q x.1 i.0)
        (local r x.1 j.0)) (λ f e. ok_here (f.0 x.0) f.1 _ (λ us s. refl)))
