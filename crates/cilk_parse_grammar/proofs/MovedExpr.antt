-- Other tokens that say the same spell the same expression but for places.
use Rattle.std.proofs.Common.{◌≡◌, ℕ, suc, ◌+◌, ◌≤◌, List, [], ◌∷◌, ◌++◌, map, refl, sym, ap, ◌∙◌, arith}
use Rattle.cilk_tree_syntax.specs.lexeme.Lexeme.{Lexeme, Piece}
use Rattle.cilk_tree_syntax.specs.Tree as tree
use Rattle.cilk_parse_grammar.proofs.Moved as moved
use Rattle.cilk_parse_grammar.specs.Classes.{class_of, lexeme_of}
use Rattle.cilk_parse_grammar.specs.Operators.{infix_of, sign_of}
use Rattle.cilk_parse_grammar.specs.Expressions.{operators, word_at, Spells, SpellsWhole, a_number_is, a_name_is, synched_is, an_element}
use Rattle.cilk_parse_grammar.specs.Expressions.{in_parentheses, of_one, of_two, of_three}
use Rattle.cilk_tree_syntax.specs.Bare.{bare_expr}

-- the same but for places
abbrev pub SameExpr : tree.Expr → tree.Expr → Type 0
SameExpr e f = bare_expr e ≡ bare_expr f

abbrev Like : List Piece → List Piece → Type 0
Like us ts = moved.Like lexeme_of class_of us ts

abbrev MovedExpr : ℕ → ℕ → List Piece → tree.Expr → Type 0
MovedExpr d p us e = moved.Moved lexeme_of class_of (λ (vs : List Piece) (f : tree.Expr). Spells d p vs f) SameExpr us e

-- the tokens ts are one after the other, and so are us
record Alone (t : Piece) (us : List Piece) : Type 0 where
  token : Piece
  same : token.lexeme ≡ t.lexeme
  whole : us ≡ token ∷ []

alone : (t : Piece) (us ts : List Piece) → Like us ts → ts ≡ t ∷ [] → Alone t us
alone t us ts e w =
    let f = moved.first lexeme_of class_of t [] us (e ∙ ap (map lexeme_of) w) in
    record { token = f.token; same = f.same; whole = f.whole ∙ ap (λ (l : List Piece). f.token ∷ l) (moved.nothing lexeme_of class_of f.rest f.same_rest) }

-- some tokens and one behind them
record Closed (ts : List Piece) (t : Piece) (us : List Piece) : Type 0 where
  front : List Piece
  token : Piece
  like : Like front ts
  same : token.lexeme ≡ t.lexeme
  whole : us ≡ front ++ token ∷ []

closed : (ts : List Piece) (t : Piece) (us : List Piece) → Like us (ts ++ t ∷ []) → Closed ts t us
closed ts t us e =
    let p = moved.parts lexeme_of class_of ts (t ∷ []) us e in
    let a = alone t p.back (t ∷ []) p.same_back refl in
    record { front = p.front; token = a.token; like = p.same_front; same = a.same; whole = p.whole ∙ ap (λ (l : List Piece). p.front ++ l) a.whole }

-- some tokens, one behind them, and others
record Between (ts : List Piece) (t : Piece) (vs us : List Piece) : Type 0 where
  front : List Piece
  token : Piece
  back : List Piece
  like : Like front ts
  same : token.lexeme ≡ t.lexeme
  like_back : Like back vs
  whole : us ≡ front ++ token ∷ back

between : (ts : List Piece) (t : Piece) (vs us : List Piece) → Like us (ts ++ t ∷ vs) → Between ts t vs us
between ts t vs us e =
    let p = moved.parts lexeme_of class_of ts (t ∷ vs) us e in
    let f = moved.first lexeme_of class_of t vs p.back p.same_back in
    record {
      front = p.front;
      token = f.token;
      back = f.rest;
      like = p.same_front;
      same = f.same;
      like_back = f.same_rest;
      whole = p.whole
          ∙ ap (λ (l : List Piece). p.front ++ l) f.whole;
    }

abbrev view : List Piece → List Lexeme
view ts = map lexeme_of ts

moves : {d p : ℕ} {ts : List Piece} {e : tree.Expr} (us : List Piece) → Like us ts → Spells d p ts e → MovedExpr d p us e
moves us l (a_number_is t n h w) =
    let f = alone t us _ l w in record { value = tree.number n; spelled = a_number_is f.token n (f.same ∙ h) f.whole; same = refl }
moves us l (a_name_is t x h w) =
    let f = alone t us _ l w
    in record { value = tree.named (word_at x f.token); spelled = a_name_is f.token x (f.same ∙ h) f.whole; same = refl }
moves us l (synched_is t h w) =
    let f = alone t us _ l w
    in record { value = tree.synched f.token.start; spelled = synched_is f.token (ap class_of f.same ∙ h) f.whole; same = refl }
moves us l (an_element {us = vs} t u v x h i s j w) =
    let f = moved.first lexeme_of class_of t (u ∷ (vs ++ v ∷ [])) us (l ∙ ap view w) in
    let g = moved.first lexeme_of class_of u (vs ++ v ∷ []) f.rest f.same_rest in
    let c = closed vs v g.rest g.same_rest in
    let m = moves c.front c.like s in
    record {
      value = tree.element (word_at x f.token) m.value;
      spelled = an_element f.token g.token c.token x (f.same ∙ h) (ap class_of g.same ∙ i) m.spelled (ap class_of c.same ∙ j)
          (f.whole ∙ ap (λ (r : List Piece). f.token ∷ r) (g.whole ∙ ap (λ (r : List Piece). g.token ∷ r) c.whole));
      same = λ k. tree.element (record { text = x; place = 0 }) (m.same k);
    }
moves us l (in_parentheses {us = vs} t u h s i w) =
    let f = moved.first lexeme_of class_of t (vs ++ u ∷ []) us (l ∙ ap view w) in
    let c = closed vs u f.rest f.same_rest in
    let m = moves c.front c.like s in
    record {
      value = m.value;
      spelled = in_parentheses f.token c.token (ap class_of f.same ∙ h) m.spelled (ap class_of c.same ∙ i)
          (f.whole ∙ ap (λ (r : List Piece). f.token ∷ r) c.whole);
      same = m.same;
    }
moves us l (of_one {us = vs} t o h a w) =
    let f = moved.first lexeme_of class_of t vs us (l ∙ ap view w) in
    let m = moves f.rest f.same_rest a in
    record {
      value = tree.unary o m.value;
      spelled = of_one f.token o (ap (λ (i : Lexeme). sign_of (class_of i)) f.same ∙ h) m.spelled f.whole;
      same = λ k. tree.unary o (m.same k);
    }
moves us l (of_two {us = vs} {vs = ws} t q o h ge a b w) =
    let f = between vs t ws us (l ∙ ap view w) in
    let m = moves f.front f.like a in
    let n = moves f.back f.like_back b in
    record {
      value = tree.binary o m.value n.value;
      spelled = of_two f.token q o (ap (λ (i : Lexeme). infix_of (class_of i)) f.same ∙ h) ge
          m.spelled n.spelled f.whole;
      same = λ k. tree.binary o (m.same k) (n.same k);
    }
moves us l (of_three {us = xs} {vs = ys} {ws = zs} t u h i z c a b w) =
    let f = between xs t (ys ++ u ∷ zs) us (l ∙ ap view w) in
    let g = between ys u zs f.back f.like_back in
    let m = moves f.front f.like c in
    let n = moves g.front g.like a in
    let o = moves g.back g.like_back b in
    record {
      value = tree.choose m.value n.value o.value;
      spelled =
          of_three f.token g.token (ap (λ (i : Lexeme). infix_of (class_of i)) f.same ∙ h) (ap class_of g.same ∙ i) z m.spelled n.spelled
          o.spelled (f.whole ∙ ap (λ (r : List Piece). f.front ++ f.token ∷ r) g.whole);
      same = λ k. tree.choose (m.same k) (n.same k) (o.same k);
    }

pub operators-bare : (e : tree.Expr) → operators (bare_expr e) ≡ operators e
operators-bare (tree.number n) = refl
operators-bare (tree.named x) = refl
operators-bare (tree.element x i) = ap (λ (n : ℕ). suc n) (operators-bare i)
operators-bare (tree.synched at) = refl
operators-bare (tree.binary op a b) = λ k. suc (operators-bare a k + operators-bare b k)
operators-bare (tree.unary op a) = ap (λ (n : ℕ). suc n) (operators-bare a)
operators-bare (tree.choose c a b) = λ k. suc (operators-bare c k + operators-bare a k + operators-bare b k)

pub expr_moved : (l d : ℕ) (ts us : List Piece) (e : tree.Expr) → moved.Like lexeme_of class_of us ts → SpellsWhole l d ts e
    → moved.Moved lexeme_of class_of (λ (vs : List Piece) (f : tree.Expr). SpellsWhole l d vs f) SameExpr us e
expr_moved l d ts us e h s =
    let m = moves us h s.spelled in
    let few : operators e ≤ l = s.few in
    let same : operators m.value ≡ operators e = sym (operators-bare m.value) ∙ ap operators m.same ∙ operators-bare e in
    record { value = m.value; spelled = record { spelled = m.spelled; few = omega (arith, few, same) }; same = m.same }
