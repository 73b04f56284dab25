-- The laws of single tokens.
use Rattle.std.proofs.Common.{◌≡◌, Bool, true, false, List, [], ◌∷◌, ◌++◌, length, Option, Some, None, Ok, Err, refl, sym, ap, subst, ◌∙◌, arith}
use Rattle.cilk_tree_syntax.specs.lexeme.Lexeme.{Piece}
use Rattle.cilk_parse_grammar.specs.Rule.{has}
use Rattle.cilk_parse_grammar.proofs.RulesTools.{ok_is}
use Rattle.cilk_parse_grammar.proofs.Begun.{Begun, with_token}
use Rattle.cilk_parse_grammar.proofs.RulesSound.{Took}
use Rattle.cilk_parse_grammar.proofs.RulesLocal.{SameHead, Local, stuck_here, unexpected}
use Rattle.cilk_parse_grammar.specs.Classes.{cls}
use Rattle.cilk_parse_grammar.specs.Parts.{Leaf, LeafMeans}
use Rattle.cilk_parse_grammar.specs.Spelling.{leaf_classes, said, IsOne, given, leaf_at}

pub leaf_begins : (t : Leaf) (us : List Piece) (x : LeafMeans t) → IsOne t us x → Begun cls (leaf_classes t) false us
leaf_begins t us x s = subst (λ (l : List Piece). Begun cls (leaf_classes t) false l) (sym s.whole) (with_token (omega arith) (λ k. s.is))

pub leaf_takes : (t : Leaf) (ts : List Piece) (y : LeafMeans t × List Piece) → leaf_at t ts ≡ Ok y → Took cls (λ k us x. IsOne t us x) ts y
unfolding leaf_at
leaf_takes t [] y e = absurd cc
leaf_takes t (p ∷ ts) y e = by (has (leaf_classes t) (Some (cls p))) (said t p.lexeme p.start) refl refl e
  where
    by : (b : Bool) (o : Option (LeafMeans t)) → has (leaf_classes t) (Some (cls p)) ≡ b → said t p.lexeme p.start ≡ o
        → given b o (p ∷ ts) ≡ Ok y → Took cls (λ k us x. IsOne t us x) (p ∷ ts) y
    by true (Some x) h i e =
        subst (λ z. Took cls (λ k us x. IsOne t us x) (p ∷ ts) z) (ok_is (x, ts) y e)
        (record { used = p ∷ []; whole = refl; spelled = record { piece = p; is = h; whole = refl; meaning = i } })
    by true None h i e = absurd cc
    by false o h i e = absurd cc

pub leaf_again : (t : Leaf) (us : List Piece) (x : LeafMeans t) (rest : List Piece) → IsOne t us x → leaf_at t (us ++ rest) ≡ Ok (x, rest)
unfolding leaf_at
leaf_again t us x rest s =
    ap (λ (l : List Piece). leaf_at t (l ++ rest)) s.whole ∙ ap (λ b. given b (said t s.piece.lexeme s.piece.start) (s.piece ∷ rest)) s.is
    ∙ ap (λ o. given true o (s.piece ∷ rest)) s.meaning

pub leaf_local : (same : Type 0) (t : Leaf) (ts : List Piece) → Local {A = LeafMeans t} same ts (leaf_at t ts) (λ us. leaf_at t us)
unfolding leaf_at
leaf_local same t [] = stuck_here unexpected [] (λ us. leaf_at t us) nothing
  where
    nothing : (us : List Piece) → SameHead [] us → leaf_at t us ≡ Err (unexpected (length us))
    nothing [] s = refl
    nothing (u ∷ us) s = elim s [ ]
leaf_local same t (p ∷ ts) = by (has (leaf_classes t) (Some (cls p))) (said t p.lexeme p.start) refl refl
  where
    again : (b : Bool) (o : Option (LeafMeans t)) → has (leaf_classes t) (Some (cls p)) ≡ b → said t p.lexeme p.start ≡ o
        → (us : List Piece) → leaf_at t (p ∷ us) ≡ given b o (p ∷ us)
    again b o h i us = ap (λ b. given b (said t p.lexeme p.start) (p ∷ us)) h ∙ ap (λ o. given b o (p ∷ us)) i

    stops : (b : Bool) (o : Option (LeafMeans t)) → ((us : List Piece) → leaf_at t (p ∷ us) ≡ given b o (p ∷ us))
        → ((us : List Piece) → given b o (p ∷ us) ≡ Err (unexpected (length (p ∷ us)))) → (us : List Piece) → SameHead (p ∷ ts) us
        → leaf_at t us ≡ Err (unexpected (length us))
    stops b o h i [] s = elim s [ ]
    stops b o h i (u ∷ us) s = ap (λ v. leaf_at t (v ∷ us)) (sym s) ∙ h us ∙ i us

    by : (b : Bool) (o : Option (LeafMeans t)) → has (leaf_classes t) (Some (cls p)) ≡ b → said t p.lexeme p.start ≡ o
        → Local {A = LeafMeans t} same (p ∷ ts) (given b o (p ∷ ts)) (λ us. leaf_at t us)
    by true (Some x) h i = record { used = p ∷ []; whole = refl; again = λ rest s. again true (Some x) h i rest }
    by true None h i = stuck_here unexpected (p ∷ ts) (λ us. leaf_at t us) (stops true None (again true None h i) (λ us. refl))
    by false o h i = stuck_here unexpected (p ∷ ts) (λ us. leaf_at t us) (stops false o (again false o h i) (λ us. refl))
