-- Tables by the classes of tokens, and what the tables of operators have.
use Rattle.std.proofs.Common.{◌≡◌, ℕ, ◌<◌, ◌==◌, ◌&&◌, Bool, true, false, List, [], ◌∷◌, Option, Some, None, refl, sym, ap, ◌∙◌, inl, inr, arith, nat_lt}
use Rattle.std.proofs.lemmas.Bool.{ltb-true, eqb-true, and_parts, or_right, or_left, or_parts}
use Rattle.cilk_parse_grammar.specs.Rule.{is, has}
use Rattle.cilk_parse_grammar.proofs.RulesTools.{chosen}
use Rattle.cilk_tree_syntax.specs.declared.operator.BinOp.{BinOp}
use Rattle.cilk_parse_grammar.specs.declared.operator.Infix.{Infix}
use Rattle.cilk_parse_grammar.specs.declared.operator.Infix.TheVariants.{Two, Choice}
use Rattle.cilk_parse_grammar.specs.Operators.{infixes, operand, classes, found, infix_of}

-- each row has what f asks
abbrev holds : {A : Type 0} → (A → Bool) → List (ℕ × A) → Bool
holds f [] = true
holds f ((c, x) ∷ rows) = f x && holds f rows

abbrev some : {A : Type 0} → A → Option A
some x = Some x

same_row : {A : Type 0} (x y : A) → some x ≡ some y → x ≡ y
same_row x y e = cc

pub found_holds : {A : Type 0} (f : A → Bool) (rows : List (ℕ × A)) (c : ℕ) (x : A) → holds f rows ≡ true → found rows c ≡ Some x → f x ≡ true
found_holds f [] c x h e = absurd cc
found_holds f ((d, y) ∷ rows) c x h e =
    let k = and_parts (f y) (holds f rows) h in
    elim (chosen (d == c) _ _ _ e) [
      | inl g ↦ ap f (sym (same_row y x g.1)) ∙ k.0
      | inr g ↦ found_holds f rows c x k.1 g.1
    ]

-- each class has what f asks
abbrev each : {A : Type 0} → (ℕ → Bool) → List (ℕ × A) → Bool
each f [] = true
each f ((c, x) ∷ rows) = f c && each f rows

pub found_class : {A : Type 0} (f : ℕ → Bool) (rows : List (ℕ × A)) (c : ℕ) (x : A) → each f rows ≡ true → found rows c ≡ Some x → f c ≡ true
found_class f [] c x h e = absurd cc
found_class f ((d, y) ∷ rows) c x h e =
    let k = and_parts (f d) (each f rows) h in
    elim (chosen (d == c) _ _ _ e) [
      | inl g ↦ ap f (sym (eqb-true d c g.0)) ∙ k.0
      | inr g ↦ found_class f rows c x k.1 g.1
    ]

-- one more class
pub has_more : (c : ℕ) (cs : List ℕ) (k : Option ℕ) → has (c ∷ cs) k ≡ false → (is c k ≡ false) × (has cs k ≡ false)
has_more c [] k e = (e, refl)
has_more c (d ∷ cs) k e = or_parts (is c k) _ e

pub has_first : (c : ℕ) (cs : List ℕ) (k : Option ℕ) → is c k ≡ true → has (c ∷ cs) k ≡ true
has_first c [] k e = e
has_first c (d ∷ cs) k e = or_left _ _ e

pub has_later : (c : ℕ) (cs : List ℕ) (k : Option ℕ) → has cs k ≡ true → has (c ∷ cs) k ≡ true
has_later c [] k e = absurd cc
has_later c (d ∷ cs) k e = or_right (is c k) _ e

pub found_none : {A : Type 0} (rows : List (ℕ × A)) (c : ℕ) → has (classes rows) (Some c) ≡ false → found rows c ≡ None
found_none [] c e = refl
found_none ((d, y) ∷ rows) c e = let k = has_more d (classes rows) (Some c) e in rw (k.0) (found_none rows c k.1)

pub found_in : {A : Type 0} (rows : List (ℕ × A)) (c : ℕ) (x : A) → found rows c ≡ Some x → has (classes rows) (Some c) ≡ true
found_in [] c x e = absurd cc
found_in ((d, y) ∷ rows) c x e =
    elim (chosen (d == c) _ _ _ e) [
      | inl g ↦ has_first d (classes rows) (Some c) g.0
      | inr g ↦ has_later d (classes rows) (Some c) (found_in rows c x g.1)
    ]

-- ---- levels

right_level : ℕ × Infix → Bool
right_level (q, Two o) = nat_lt 0 q && nat_lt q operand
right_level (q, Choice) = 0 == q

levels : (c q : ℕ) (w : Infix) → infix_of c ≡ Some (q, w) → right_level (q, w) ≡ true
unfolding right_level
levels c q w e = found_holds right_level infixes c (q, w) refl e

pub level_low : (c q : ℕ) (o : BinOp) → infix_of c ≡ Some (q, Two o) → 0 < q
unfolding right_level
level_low c q o e = ltb-true 0 q (and_parts (nat_lt 0 q) _ (levels c q (Two o) e)).0

pub level_none : (c q : ℕ) → infix_of c ≡ Some (q, Choice) → q ≡ 0
unfolding right_level
level_none c q e = sym (eqb-true 0 q (levels c q Choice e))

pub level_high : (c q : ℕ) (w : Infix) → infix_of c ≡ Some (q, w) → q < operand
unfolding right_level
level_high c q (Two o) e = ltb-true q operand (and_parts (nat_lt 0 q) _ (levels c q (Two o) e)).1
level_high c q Choice e = let z = level_none c q e in omega (arith, z)
