-- What is read is spelled so.
use Rattle.std.proofs.Common.{◌≡◌, ℕ, zero, suc, ◌+◌, ◌==◌, ◌<◌, ◌≤◌, List, [], ◌∷◌, ◌++◌, length, Bool, true, false, if◌then◌else◌, Option, Some}
use Rattle.std.proofs.Common.{None, Ok, Err, refl, sym, ap, subst, ◌∙◌, append_assoc, inl, inr, arith, leb, ltb, length-append}
use Rattle.std.proofs.lemmas.List.{append-nil}
use Rattle.std.proofs.lemmas.Bool.{leb-true, leb-false, ltb-true, eqb-true}
use Rattle.cilk_tree_syntax.specs.lexeme.Lexeme.{Piece}
use Rattle.cilk_tree_syntax.specs.lexeme.declared.keyword.Keyword.TheVariants as words
use Rattle.cilk_tree_syntax.specs.lexeme.declared.mark.Mark.{Mark}
use Rattle.cilk_tree_syntax.specs.lexeme.declared.mark.Mark.TheVariants as marks
use Rattle.cilk_tree_syntax.specs.lexeme.declared.token.TokenKind.{TokenKind}
use Rattle.cilk_tree_syntax.specs.lexeme.declared.token.TokenKind.TheVariants as kind
use Rattle.cilk_tree_syntax.specs.declared.operator.BinOp.{BinOp}
use Rattle.cilk_tree_syntax.specs.declared.un_op.UnOp.{UnOp}
use Rattle.cilk_tree_syntax.specs.Tree as tree
use Rattle.cilk_parse_grammar.specs.declared.fault.Fault.TheVariants.{TooDeep}
use Rattle.cilk_parse_grammar.specs.Rule.{◌>>=◌, behind, is, class_at, token_at}
use Rattle.cilk_parse_grammar.proofs.RulesTools.{bind_ok, ok_is, chosen}
use Rattle.cilk_parse_grammar.specs.declared.operator.Infix.{Infix}
use Rattle.cilk_parse_grammar.specs.declared.operator.Infix.TheVariants.{Two, Choice}
use Rattle.cilk_parse_grammar.specs.Classes.{a_word, a_mark, cls}
use Rattle.cilk_parse_grammar.specs.Operators.{operand, sign_of}
use Rattle.cilk_parse_grammar.specs.Expressions.{operators, Spells, a_number_is, a_name_is, synched_is, an_element, in_parentheses, of_one, of_two, of_three}
use Rattle.cilk_parse_grammar.specs.Front.{kind_at, place_at, infix_at, name_at}
use Rattle.cilk_parse_grammar.specs.Reading.{Reads, closed, in_open, at_mark, behind_name, operand_by, behind_question, behind_infix, on_after}
use Rattle.cilk_parse_grammar.specs.Reading.{expr_in, more_in}
use Rattle.cilk_parse_grammar.proofs.Tables.{level_low, level_none}
use Rattle.cilk_parse_grammar.proofs.Tools.{Next, next_is, class_next, kind_next, number_lexeme, word_class, mark_class, NextName, name_is}
use Rattle.cilk_parse_grammar.proofs.Tools.{infix_next, Stops, Below, BelowAt, below_at, below_all, looser}

abbrev pub State : Type 0
State = (tree.Expr × ℕ) × List Piece

-- the front of the tokens spells an operand
pub record TookOperand (l d n : ℕ) (ts : List Piece) (x : State) : Type 0 where
  pub used : List Piece
  pub whole : ts ≡ used ++ x.1
  pub some : 0 < length used
  pub spelled : (p : ℕ) → Spells d p used x.0.0
  pub counted : x.0.1 ≡ n + operators x.0.0
  pub within : n ≤ l → x.0.1 ≤ l

-- The front of the tokens, behind some others that spell a, spells the expression, and the rest doesn't go on.
pub record Took (l d p n a : ℕ) (us ts : List Piece) (x : State) : Type 0 where
  pub used : List Piece
  pub whole : ts ≡ used ++ x.1
  pub spelled : Spells d p (us ++ used) x.0.0
  pub stops : Stops p x.1
  pub counted : x.0.1 + a ≡ n + operators x.0.0
  pub within : n ≤ l → x.0.1 ≤ l

-- the same with nothing in front, and something taken
pub record TookAll (l d p n : ℕ) (ts : List Piece) (x : State) : Type 0 where
  pub used : List Piece
  pub whole : ts ≡ used ++ x.1
  pub some : 0 < length used
  pub spelled : Spells d p used x.0.0
  pub stops : Stops p x.1
  pub counted : x.0.1 ≡ n + operators x.0.0
  pub within : n ≤ l → x.0.1 ≤ l

abbrev pub TakesInner : ℕ → (ℕ → ℕ → ℕ → List Piece → Reads) → Type 0
TakesInner l inner = (d p n : ℕ) (ts : List Piece) (x : State) → inner d p n ts ≡ Ok x → TookAll l d p n ts x

-- an expression, and the mark that closes it
record TookClosed (l d n c : ℕ) (f : tree.Expr → tree.Expr) (ts : List Piece) (x : State) : Type 0 where
  used : List Piece
  piece : Piece
  inside : tree.Expr
  spelled : Spells d 0 used inside
  closes : cls piece ≡ c
  whole : ts ≡ (used ++ piece ∷ []) ++ x.1
  means : x.0.0 ≡ f inside
  counted : x.0.1 ≡ n + operators inside
  within : n ≤ l → x.0.1 ≤ l

closed_takes : (inner : ℕ → ℕ → ℕ → List Piece → Reads) (l d n c : ℕ) (f : tree.Expr → tree.Expr) (ts : List Piece) (x : State)
    → TakesInner l inner → closed c f (inner d 0 n ts) ≡ Ok x → TookClosed l d n c f ts x
closed_takes inner l d n c f ts x ti e =
    let a = bind_ok (inner d 0 n ts) _ x e in
    let b = bind_ok (token_at cls c a.0.1) _ x a.2 in
    let t = ti d 0 n ts a.0 a.1 in
    let k = next_is c a.0.1 b.0 b.1 in
    subst (λ (y : State). TookClosed l d n c f ts y) (ok_is ((f a.0.0.0, a.0.0.1), b.0) x b.2)
    (record {
      used = t.used;
      piece = k.piece;
      inside = a.0.0.0;
      spelled = t.spelled;
      closes = k.is;
      whole = t.whole ∙ ap (λ (m : List Piece). t.used ++ m) k.whole ∙ sym (append_assoc t.used (k.piece ∷ []) b.0);
      means = refl;
      counted = t.counted;
      within = t.within;
    })

-- where something is counted, there was room for it
room : (l n : ℕ) (ts : List Piece) (v : Reads) (x : State) → (if ltb n l then v else Err (TooDeep (length ts))) ≡ Ok x → (n < l) × (v ≡ Ok x)
room l n ts v x e =
    elim (chosen (ltb n l) _ _ _ e) [
      | inl k ↦ (ltb-true _ _ k.0, k.1)
      | inr k ↦ absurd cc
    ]

-- one token
one_operand : (l d n : ℕ) (ts us : List Piece) (e : tree.Expr) (t : Piece) (x : State) → ts ≡ t ∷ us → operators e ≡ 0
    → ((p : ℕ) → Spells d p (t ∷ []) e) → ((e, n), us) ≡ x → TookOperand l d n ts x
one_operand l d n ts us e t x w z s h =
    subst (λ (y : State). TookOperand l d n ts y) h
    (record { used = t ∷ []; whole = w; some = omega arith; spelled = s; counted = omega (arith, z); within = λ le. le })

-- an operator, and its operand
sign_takes : (inner : ℕ → ℕ → ℕ → List Piece → Reads) (l d n : ℕ) (ts : List Piece) (x : State) (t : Piece) (o : UnOp) → TakesInner l inner
    → ts ≡ t ∷ behind ts → sign_of (cls t) ≡ Some o → n < l
    → (inner d operand (suc n) (behind ts) >>= λ e. Ok ((tree.unary o e.0.0, e.0.1), e.1)) ≡ Ok x → TookOperand l d n ts x
sign_takes inner l d n ts x k o ti w u lt e =
    let a = bind_ok (inner d operand (suc n) (behind ts)) _ x e in
    let t = ti d operand (suc n) (behind ts) a.0 a.1 in
    subst (λ (y : State). TookOperand l d n ts y) (ok_is ((tree.unary o a.0.0.0, a.0.0.1), a.0.1) x a.2)
    (record {
      used = k ∷ t.used;
      whole = w ∙ ap (λ (v : List Piece). k ∷ v) t.whole;
      some = omega arith;
      spelled = λ p. of_one k o u t.spelled refl;
      counted = omega (arith, t.counted);
      within = λ le. t.within lt;
    })

-- an expression in parentheses
open_takes : (inner : ℕ → ℕ → ℕ → List Piece → Reads) (l d n : ℕ) (ts : List Piece) (x : State) (t : Piece) → TakesInner l inner → ts ≡ t
    ∷ behind ts → cls t ≡ a_mark marks.OpenParenthesis → in_open inner d n ts ≡ Ok x → TookOperand l d n ts x
open_takes inner l zero n ts x t ti w h e = absurd cc
open_takes inner l (suc d) n ts x t ti w h e =
    let c = closed_takes inner l d n (a_mark marks.CloseParenthesis) (λ i. i) (behind ts) x ti e in
    record {
      used = t ∷ (c.used ++ c.piece ∷ []);
      whole = w ∙ ap (λ (m : List Piece). t ∷ m) c.whole;
      some = omega arith;
      spelled =
          λ p. subst (λ (i : tree.Expr). Spells (suc d) p (t ∷ (c.used ++ c.piece ∷ [])) i) (sym c.means)
          (in_parentheses t c.piece h c.spelled c.closes refl);
      counted = omega (arith, c.counted, ap operators c.means);
      within = c.within;
    }

mark_takes : (inner : ℕ → ℕ → ℕ → List Piece → Reads) (l d n : ℕ) (ts : List Piece) (x : State) (t : Piece) (m : Mark) (w : Option UnOp)
    (b : Bool) → TakesInner l inner → ts ≡ t ∷ behind ts → cls t ≡ a_mark m → sign_of (a_mark m) ≡ w
    → (a_mark marks.OpenParenthesis == a_mark m) ≡ b → at_mark inner l d n ts w b ≡ Ok x → TookOperand l d n ts x
mark_takes inner l d n ts x t m (Some o) b ti w h u i e =
    let c = room l n ts _ x e in sign_takes inner l d n ts x t o ti w (ap sign_of h ∙ u) c.0 c.1
mark_takes inner l d n ts x t m None true ti w h u i e = open_takes inner l d n ts x t ti w (h ∙ sym (eqb-true _ _ i)) e
mark_takes inner l d n ts x t m None false ti w h u i e = absurd cc

-- a name and its subscript
element_takes : (inner : ℕ → ℕ → ℕ → List Piece → Reads) (l d n : ℕ) (ts us : List Piece) (x : State) (w : tree.Word) → TakesInner l inner
    → (k : NextName ts us w) → Next (a_mark marks.OpenBracket) us (behind us) → n < l
    → closed (a_mark marks.CloseBracket) (λ e. tree.element w e) (inner d 0 (suc n) (behind us)) ≡ Ok x → TookOperand l d n ts x
element_takes inner l d n ts us x w ti k b lt e =
    let c = closed_takes inner l d (suc n) (a_mark marks.CloseBracket) (λ i. tree.element w i) (behind us) x ti e in
    let all = k.piece ∷ (b.piece ∷ (c.used ++ c.piece ∷ [])) in
    record {
      used = all;
      whole = k.whole ∙ ap (λ (m : List Piece). k.piece ∷ m) (b.whole ∙ ap (λ (m : List Piece). b.piece ∷ m) c.whole);
      some = omega arith;
      spelled = λ p. subst (λ (i : tree.Expr). Spells d p all i) (sym c.means)
          (subst (λ (v : tree.Word). Spells d p all (tree.element v c.inside)) k.spelled
          (an_element k.piece b.piece c.piece k.text k.is b.is c.spelled c.closes refl));
      counted = omega (arith, c.counted, ap operators c.means);
      within = λ le. c.within lt;
    }

name_takes : (inner : ℕ → ℕ → ℕ → List Piece → Reads) (l d n : ℕ) (ts us : List Piece) (x : State) (w : tree.Word) → TakesInner l inner
    → NextName ts us w → behind_name inner l d n w us ≡ Ok x → TookOperand l d n ts x
name_takes inner l d n ts us x w ti k e =
    elim (chosen (is (a_mark marks.OpenBracket) (class_at cls us)) _ _ _ e) [
      | inl b ↦ let c = room l n us _ x b.1 in element_takes inner l d n ts us x w ti k (class_next (a_mark marks.OpenBracket) us b.0) c.0 c.1
      | inr b ↦
          one_operand l d n ts us (tree.named w) k.piece x k.whole refl
          (λ p. subst (λ (v : tree.Word). Spells d p (k.piece ∷ []) (tree.named v)) k.spelled (a_name_is k.piece k.text k.is refl))
          (ok_is ((tree.named w, n), us) x b.1)
    ]

-- the place of the next token
place_is : (t : Piece) (ts us : List Piece) → ts ≡ t ∷ us → place_at ts ≡ t.start
place_is t ts us w = ap (λ (v : List Piece). place_at v) w

pub operand_takes : (inner : ℕ → ℕ → ℕ → List Piece → Reads) (l d n : ℕ) (ts : List Piece) (x : State) (k : Option TokenKind)
    → TakesInner l inner → kind_at ts ≡ k → operand_by inner l d n ts k ≡ Ok x → TookOperand l d n ts x
operand_takes inner l d n ts x (Some (kind.Number m)) ti h e =
    let k = kind_next ts (kind.Number m) h in
    one_operand l d n ts (behind ts) (tree.number m) k.piece x k.whole refl
    (λ p. a_number_is k.piece m (number_lexeme k.piece.lexeme m k.is) refl) (ok_is ((tree.number m, n), behind ts) x e)
operand_takes inner l d n ts x (Some kind.Name) ti h e =
    let a = bind_ok (name_at ts) _ x e in name_takes inner l d n ts a.0.1 x a.0.0 ti (name_is ts a.0 a.1) a.2
operand_takes inner l d n ts x (Some (kind.Mark m)) ti h e =
    let k = kind_next ts (kind.Mark m) h in
    mark_takes inner l d n ts x k.piece m (sign_of (a_mark m)) (a_mark marks.OpenParenthesis == a_mark m) ti k.whole
    (mark_class k.piece.lexeme m k.is) refl refl e
operand_takes inner l d n ts x (Some (kind.Word w)) ti h e =
    let k = kind_next ts (kind.Word w) h in
    elim (chosen (a_word words.Synched == a_word w) _ _ _ e) [
      | inl b ↦
          one_operand l d n ts (behind ts) (tree.synched (place_at ts)) k.piece x k.whole refl
          (λ p. subst (λ (i : ℕ). Spells d p (k.piece ∷ []) (tree.synched i)) (sym (place_is k.piece ts (behind ts) k.whole))
          (synched_is k.piece (word_class k.piece.lexeme w k.is ∙ sym (eqb-true _ _ b.0)) refl))
          (ok_is ((tree.synched (place_at ts), n), behind ts) x b.1)
      | inr b ↦ absurd cc
    ]
operand_takes inner l d n ts x (Some kind.Text) ti h e = absurd cc
operand_takes inner l d n ts x (Some (kind.Include i)) ti h e = absurd cc
operand_takes inner l d n ts x None ti h e = absurd cc

-- where nothing more is taken
stays : (l d p q n : ℕ) (us ts : List Piece) (a : tree.Expr) (x : State) → p ≤ q → Spells d q us a → Stops p ts → ((a, n), ts) ≡ x
    → Took l d p n (operators a) us ts x
stays l d p q n us ts a x le s stops e =
    subst (λ (y : State). Took l d p n (operators a) us ts y) e
    (record { used = []; whole = refl; spelled = rw append-nil (looser le s); stops = stops; counted = refl; within = λ le. le })

abbrev TakesExpr : (ℕ → ℕ → List Piece → Reads) → ℕ → ℕ → Type 0
TakesExpr expr l d = (r n : ℕ) (vs : List Piece) (y : State) → expr r n vs ≡ Ok y → TookAll l d r n vs y

abbrev TakesMore : (ℕ → tree.Expr → List Piece → Reads) → ℕ → ℕ → ℕ → Type 0
TakesMore more l d p =
    (q n : ℕ) (vs : List Piece) (c : tree.Expr) (ws : List Piece) (y : State) → p ≤ q → Spells d q vs c → Below q ws → more n c ws ≡ Ok y
    → Took l d p n (operators c) vs ws y

-- an operator, its second operand, and what follows
operator_takes : (expr : ℕ → ℕ → List Piece → Reads) (more : ℕ → tree.Expr → List Piece → Reads) (l d p q r n : ℕ) (us : List Piece)
    (a : tree.Expr) (ts : List Piece) (x : State) (o : BinOp)
    → TakesExpr expr l d → TakesMore more l d p → infix_at ts ≡ Some (r, Two o) → p ≤ r → Spells d q us a → r ≤ q → n < l
    → (expr (suc r) (suc n) (behind ts) >>= λ b. more b.0.1 (tree.binary o a b.0.0) b.1) ≡ Ok x → Took l d p n (operators a) us ts x
operator_takes expr more l d p q r n us a ts x o te tm at ge s b lt e =
    let k = infix_next ts r (Two o) at in
    let y = bind_ok (expr (suc r) (suc n) (behind ts)) _ x e in
    let t = te (suc r) (suc n) (behind ts) y.0 y.1 in
    let m = tm r y.0.0.1 (us ++ k.piece ∷ t.used) (tree.binary o a y.0.0.0) y.0.1 x ge
    (of_two k.piece r o k.is (omega arith) (looser b s) t.spelled refl) (below_at r (infix_at y.0.1) (level_low (cls k.piece) r o k.is) t.stops) y.2 in
    record {
      used = k.piece ∷ (t.used ++ m.used);
      whole = k.whole ∙ ap (λ (v : List Piece). k.piece ∷ v) (t.whole ∙ ap (λ (v : List Piece). t.used ++ v) m.whole ∙ sym (append_assoc t.used m.used x.1));
      spelled = subst (λ (v : List Piece). Spells d p v x.0.0) (append_assoc us (k.piece ∷ t.used) m.used) m.spelled;
      stops = m.stops;
      counted = omega (arith, m.counted, t.counted);
      within = λ le. m.within (t.within lt);
    }

-- a token, some others, a token, and some others, in front of the rest
around : (ts ts' us us' front back rest : List Piece) (t u : Piece) → ts ≡ t ∷ ts' → ts' ≡ front ++ us → us ≡ u ∷ us' → us' ≡ back ++ rest
    → ts ≡ t ∷ ((front ++ u ∷ back) ++ rest)
around ts ts' us us' front back rest t u e f g h =
    e
    ∙ ap (λ (r : List Piece). t ∷ r)
    (f ∙ ap (λ (r : List Piece). front ++ r) (g ∙ ap (λ (r : List Piece). u ∷ r) h) ∙ sym (append_assoc front (u ∷ back) rest))

-- `?`, what stands before the colon, and what stands behind it
choice_takes : (expr : ℕ → ℕ → List Piece → Reads) (l d p q r n : ℕ) (us : List Piece) (a : tree.Expr) (ts : List Piece) (x : State)
    → TakesExpr expr l d → infix_at ts ≡ Some (r, Choice) → p ≤ r → Spells d q us a → 0 < q → n < l
    → behind_question expr a (suc n) (behind ts) ≡ Ok x → Took l d p n (operators a) us ts x
choice_takes expr l d p q r n us a ts x te at ge s some lt e =
    let k = infix_next ts r Choice at in
    let none = level_none (cls k.piece) r k.is in
    let y = bind_ok (expr 0 (suc n) (behind ts)) _ x e in
    let v = bind_ok (token_at cls (a_mark marks.Colon) y.0.1) _ x y.2 in
    let z = bind_ok (expr 0 y.0.0.1 v.0) _ x v.2 in
    let first = te 0 (suc n) (behind ts) y.0 y.1 in
    let c = next_is (a_mark marks.Colon) y.0.1 v.0 v.1 in
    let second = te 0 y.0.0.1 v.0 z.0 z.1 in
    let lowest : p ≡ 0 = omega (arith, ge, none) in
    subst (λ (r : State). Took l d p n (operators a) us ts r) (ok_is ((tree.choose a y.0.0.0 z.0.0.0, z.0.0.1), z.0.1) x z.2)
    (record {
      used = k.piece ∷ (first.used ++ c.piece ∷ second.used);
      whole = around ts (behind ts) y.0.1 v.0 first.used second.used z.0.1 k.piece c.piece k.whole first.whole c.whole second.whole;
      spelled = of_three k.piece c.piece (k.is ∙ ap (λ (i : ℕ). Some (i, Choice)) none) c.is lowest (looser some s) first.spelled second.spelled refl;
      stops = subst (λ (i : ℕ). Stops i z.0.1) (sym lowest) second.stops;
      counted = omega (arith, first.counted, second.counted);
      within = λ le. second.within (first.within lt);
    })

infix_takes : (expr : ℕ → ℕ → List Piece → Reads) (more : ℕ → tree.Expr → List Piece → Reads) (l d p q r n : ℕ) (us : List Piece)
    (a : tree.Expr) (ts : List Piece) (x : State) (w : Infix)
    → TakesExpr expr l d → TakesMore more l d p → infix_at ts ≡ Some (r, w) → p ≤ r → Spells d q us a → BelowAt q (Some (r, w)) → n < l
    → behind_infix expr more a r w (suc n) (behind ts) ≡ Ok x → Took l d p n (operators a) us ts x
infix_takes expr more l d p q r n us a ts x (Two o) te tm at ge s b lt e = operator_takes expr more l d p q r n us a ts x o te tm at ge s b.0 lt e
infix_takes expr more l d p q r n us a ts x Choice te tm at ge s b lt e = choice_takes expr l d p q r n us a ts x te at ge s b.1 lt e

-- a front that goes on
on_takes : (expr : ℕ → ℕ → List Piece → Reads) (more : ℕ → tree.Expr → List Piece → Reads) (l d p q n : ℕ) (us : List Piece) (a : tree.Expr)
    (ts : List Piece) (x : State) (w : Option (ℕ × Infix))
    → TakesExpr expr l d → TakesMore more l d p → infix_at ts ≡ w → p ≤ q → Spells d q us a → BelowAt q w
    → on_after expr more l p n a ts w ≡ Ok x → Took l d p n (operators a) us ts x
on_takes expr more l d p q n us a ts x (Some (r, w)) te tm at le s b e =
    elim (chosen (leb p r) _ _ _ e) [
      | inl h ↦ let c = room l n ts _ x h.1 in infix_takes expr more l d p q r n us a ts x w te tm at (leb-true _ _ h.0) s b c.0 c.1
      | inr h ↦ stays l d p q n us ts a x le s (rw at (leb-false _ _ h.0)) (ok_is ((a, n), ts) x h.1)
    ]
on_takes expr more l d p q n us a ts x None te tm at le s b e =
    stays l d p q n us ts a x le s (rw at tt) (ok_is ((a, n), ts) x e)

mutual
  unfolding expr_in

  pub expr_takes : (f l d p n : ℕ) (ts : List Piece) (x : State) → expr_in f l d p n ts ≡ Ok x → TookAll l d p n ts x
  expr_takes zero l d p n ts x e = absurd cc
  expr_takes (suc f) l d p n ts x e =
      let a = bind_ok (operand_by (λ c q m us. expr_in f l c q m us) l d n ts (kind_at ts)) _ x e in
      let t = operand_takes (λ c q m us. expr_in f l c q m us) l d n ts a.0 (kind_at ts) (λ c q m us y. expr_takes f l c q m us y) refl a.1 in
      let m = more_takes f l d p (p + operand) a.0.0.1 t.used a.0.0.0 a.0.1 x (omega arith) (t.spelled (p + operand))
      (below_all (p + operand) a.0.1 (omega arith)) a.2 in
      record {
        used = t.used ++ m.used;
        whole = t.whole ∙ ap (λ (v : List Piece). t.used ++ v) m.whole ∙ sym (append_assoc t.used m.used x.1);
        some = omega (arith, t.some, length-append t.used m.used);
        spelled = m.spelled;
        stops = m.stops;
        counted = omega (arith, t.counted, m.counted);
        within = λ le. m.within (t.within le);
      }

  pub more_takes : (f l d p q n : ℕ) (us : List Piece) (a : tree.Expr) (ts : List Piece) (x : State) → p ≤ q → Spells d q us a → Below q ts
      → more_in f l d p n a ts ≡ Ok x → Took l d p n (operators a) us ts x
  more_takes zero l d p q n us a ts x le s b e = absurd cc
  more_takes (suc f) l d p q n us a ts x le s b e =
      on_takes (λ r m vs. expr_in f l d r m vs) (λ m c vs. more_in f l d p m c vs) l d p q n us a ts x (infix_at ts)
      (λ r m vs y. expr_takes f l d r m vs y) (λ r m vs c ws y. more_takes f l d p r m vs c ws y) refl le s b e
