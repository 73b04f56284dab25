-- Where reading stops, no program goes on.
use Rattle.std.proofs.Common.{◌≡◌, ℕ, ◌+◌, ◌-◌, ◌≤◌, List, [], ◌∷◌, ◌++◌, length, take, drop, map, Ok, Err, refl, sym, ap, subst, ◌∙◌, append_assoc}
use Rattle.std.proofs.Common.{arith, length-append}
use Rattle.std.proofs.Math.Seq.{drop-append_seam}
use Rattle.std.proofs.lemmas.List.{map-append, take-append-drop}
use Rattle.cilk_tree_syntax.specs.lexeme.Lexeme.{Lexeme, Piece}
use Rattle.cilk_tree_syntax.specs.Tree as tree
use Rattle.cilk_parse_grammar.specs.declared.fault.Fault.{Fault}
use Rattle.cilk_parse_grammar.specs.declared.fault.Fault.TheVariants.{Unexpected, TooDeep}
use Rattle.cilk_parse_grammar.specs.Rule.{Read}
use Rattle.cilk_parse_grammar.proofs.RulesLocal.{SameHead, Local, Stuck, Full, unexpected, too_deep}
use Rattle.cilk_parse_grammar.specs.Classes.{lexeme_of}
use Rattle.cilk_parse_grammar.specs.Spelling.{SpellsProgram, program_of}
use Rattle.cilk_parse_grammar.specs.Fault.{lexemes, IsNotGoingOn, at_token, at_end, any_limits, the_limits, start_or, place_left}
use Rattle.cilk_parse_grammar.proofs.Programs.{Parts, program_again, program_wider, program_local}
use Rattle.cilk_parse_grammar.proofs.MovedNests.{program_moved}

-- some tokens that are these lexemes
at_zero : Lexeme → Piece
at_zero l = record { lexeme = l; start = 0; end = 0 }

zero_lexemes : (ls : List Lexeme) → lexemes (map at_zero ls) ≡ ls
unfolding at_zero
zero_lexemes [] = refl
zero_lexemes (l ∷ ls) = ap (λ (m : List Lexeme). l ∷ m) (zero_lexemes ls)

same_itself : (ts : List Piece) → SameHead ts ts
same_itself [] = tt
same_itself (t ∷ ts) = refl

-- with at least this room, reading stops there
record Refused (fault : ℕ → Fault) (l d n k : ℕ) (ps : List Piece) : Type 0 where
  operators : ℕ
  parentheses : ℕ
  nesting : ℕ
  more : l ≤ operators
  wider : d ≤ parentheses
  deeper : n ≤ nesting
  stuck : Stuck Parts fault ps k (λ us. program_of operators parentheses nesting us)

abbrev read_as : Parts × List Piece → Read Piece Parts
read_as x = Ok x

take_front : (us vs : List Piece) → take (length us) (us ++ vs) ≡ us
take_front [] vs = refl
take_front (u ∷ us) vs = ap (λ (l : List Piece). u ∷ l) (take_front us vs)

module _ (fault : ℕ → Fault) (allowed : ℕ → ℕ → ℕ → Type 0) (end : ℕ) (ps : List Piece) (k at : ℕ)
    (refused : (l d n : ℕ) → allowed l d n → Refused fault l d n k ps) (place : at ≡ place_left end ps k) where
  abbrev front : List Piece
  front = take (length ps - k) ps

  abbrev behind : List Piece
  behind = drop (length ps - k) ps

  taken : (used left : List Piece) → ps ≡ used ++ left → k ≡ length left → (used ≡ front) × (left ≡ behind)
  taken used left e h =
      let n : length ps - k ≡ length used = omega (arith, h, ap length e, length-append used left) in (
        sym (ap (λ i. take i ps) n ∙ ap (λ (l : List Piece). take (length used) l) e ∙ take_front used left),
        sym (ap (λ i. drop i ps) n ∙ ap (λ (l : List Piece). drop (length used) l) e ∙ drop-append_seam used left),
      )

  -- reading goes wrong in front of anything that begins as the rest does
  goes_wrong : (l d n : ℕ) → allowed l d n → (rest : List Piece) (p : tree.Program) → SameHead behind rest → SpellsProgram l d n (front ++ rest) p → ⊥
  goes_wrong l d n al rest p h s =
      let r = refused l d n al in
      let c = taken r.stuck.used r.stuck.left r.stuck.whole r.stuck.place in
      let again = r.stuck.again rest (subst (λ (v : List Piece). SameHead v rest) (sym c.1) h) in
      let read = program_again r.operators r.parentheses r.nesting (front ++ rest) p
      (program_wider l r.operators d r.parentheses n r.nesting r.more r.wider r.deeper (front ++ rest) p s) in
      let both : read_as ((p.headers, p.items), []) ≡ Err (fault (length rest)) = sym read
      ∙ ap (λ (v : List Piece). program_of r.operators r.parentheses r.nesting (v ++ rest)) (sym c.0) ∙ again in
      cc

  stops_by : ps ≡ front ++ behind → (left : List Piece) → behind ≡ left → IsNotGoingOn allowed end ps at
  stops_by whole [] e =
      at_end (place ∙ ap (λ (v : List Piece). start_or end v) e)
      (λ l d n al p s. goes_wrong l d n al behind p (same_itself behind) (subst (λ (v : List Piece). SpellsProgram l d n v p) whole s))
  stops_by whole (t ∷ back) e =
      at_token front back t (whole ∙ ap (λ (v : List Piece). front ++ v) e) (sym (place ∙ ap (λ (v : List Piece). start_or end v) e))
      (λ l d n al us p b s.
      let rest = t ∷ map at_zero b.back in
      let same : lexemes (front ++ rest) ≡ lexemes us =
      map-append lexeme_of front rest ∙ ap (λ (ls : List Lexeme). lexemes front ++ t.lexeme ∷ ls) (zero_lexemes b.back)
      ∙ sym (append_assoc (lexemes front) (t.lexeme ∷ []) b.back) ∙ sym b.whole in
      let m = program_moved l d n us (front ++ rest) p same s in
      goes_wrong l d n al rest m.value (subst (λ (v : List Piece). SameHead v rest) (sym e) refl) m.spelled)

any_room : (l d n k : ℕ) (ps : List Piece) → program_of 200 200 201 ps ≡ Err (Unexpected k) → Refused unexpected l d n k ps
any_room l d n k ps e = record {
  operators = 200 + l;
  parentheses = 200 + d;
  nesting = 201 + n;
  more = omega arith;
  wider = omega arith;
  deeper = omega arith;
  stuck = subst (λ r. Local {A = Parts} ⊥ ps r (λ us. program_of (200 + l) (200 + d) (201 + n) us)) e
      (program_local ⊥ 200 (200 + l) 200 (200 + d) 201 (201 + n) (omega arith) (omega arith) (omega arith) (λ s. absurd s) (λ s. absurd s) (λ s. absurd s) ps);
}

no_room : (l d n k : ℕ) (ps : List Piece) → the_limits l d n → program_of 200 200 201 ps ≡ Err (TooDeep k) → Refused too_deep l d n k ps
no_room l d n k ps h e = record {
  operators = 200;
  parentheses = 200;
  nesting = 201;
  more = omega (arith, h.0);
  wider = omega (arith, h.1);
  deeper = omega (arith, h.2);
  stuck = (subst (λ r. Local {A = Parts} (Unit {0}) ps r (λ us. program_of 200 200 201 us)) e
      (program_local (Unit {0}) 200 200 200 200 201 201 (omega arith) (omega arith) (omega arith) (λ s. refl) (λ s. refl) (λ s. refl) ps) tt).0;
}

split_at : (ps : List Piece) (n : ℕ) → ps ≡ take n ps ++ drop n ps
split_at ps n = sym (take-append-drop n ps)

pub unexpected_stops : (end : ℕ) (ps : List Piece) (k : ℕ) → program_of 200 200 201 ps ≡ Err (Unexpected k)
    → IsNotGoingOn any_limits end ps (place_left end ps k)
unexpected_stops end ps k e =
    stops_by unexpected any_limits end ps k (place_left end ps k) (λ l d n al. any_room l d n k ps e) refl (split_at ps (length ps - k))
    (drop (length ps - k) ps) refl

pub too_deep_stops : (end : ℕ) (ps : List Piece) (k : ℕ) → program_of 200 200 201 ps ≡ Err (TooDeep k) → IsNotGoingOn the_limits end ps (place_left end ps k)
too_deep_stops end ps k e =
    stops_by too_deep the_limits end ps k (place_left end ps k) (λ l d n al. no_room l d n k ps al e) refl (split_at ps (length ps - k))
    (drop (length ps - k) ps) refl

-- ---- no more is left than there was

stuck_within : (fault : ℕ → Fault) (ts : List Piece) (k : ℕ) (m : List Piece → Read Piece Parts) → Stuck Parts fault ts k m → k ≤ length ts
stuck_within fault ts k m s = omega (arith, s.place, ap length s.whole, length-append s.used s.left)

local_read : (l d n : ℕ) (ts : List Piece) → Local {A = Parts} (Unit {0}) ts (program_of l d n ts) (λ us. program_of l d n us)
local_read l d n ts = program_local (Unit {0}) l l d d n n (omega arith) (omega arith) (omega arith) (λ s. refl) (λ s. refl) (λ s. refl) ts

pub unexpected_within : (l d n : ℕ) (ts : List Piece) (k : ℕ) → program_of l d n ts ≡ Err (Unexpected k) → k ≤ length ts
unexpected_within l d n ts k e =
    stuck_within unexpected ts k (λ us. program_of l d n us)
    (subst (λ r. Local {A = Parts} (Unit {0}) ts r (λ us. program_of l d n us)) e (local_read l d n ts))

full_at : (l d n : ℕ) (ts : List Piece) (k : ℕ) → program_of l d n ts ≡ Err (TooDeep k) → Full Parts ts k (λ us. program_of l d n us)
full_at l d n ts k e = subst (λ r. Local {A = Parts} (Unit {0}) ts r (λ us. program_of l d n us)) e (local_read l d n ts) tt

pub too_deep_within : (l d n : ℕ) (ts : List Piece) (k : ℕ) → program_of l d n ts ≡ Err (TooDeep k) → k ≤ length ts
too_deep_within l d n ts k e = stuck_within too_deep ts k (λ us. program_of l d n us) (full_at l d n ts k e).0

-- and where there is no more room, a token is left
pub too_deep_token : (l d n : ℕ) (ts : List Piece) (k : ℕ) → program_of l d n ts ≡ Err (TooDeep k) → 1 ≤ k
too_deep_token l d n ts k e = (full_at l d n ts k e).1
