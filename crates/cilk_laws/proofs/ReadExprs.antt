-- The canonical lexemes of an expression spell it, places aside.
use Rattle.std.proofs.Common.{◌≡◌, ℕ, zero, suc, ◌<◌, ◌≤◌, List, [], ◌∷◌, ◌++◌, map, Some, refl, ap, ◌∙◌, arith}
use Rattle.std.proofs.lemmas.List.{map-append}
use Rattle.cilk_check.specs.lexeme.Lexeme.{Lexeme, Piece, word, name, number, mark}
use Rattle.cilk_check.specs.lexeme.declared.keyword.Keyword.TheVariants as key
use Rattle.cilk_check.specs.lexeme.declared.mark.Mark.TheVariants as sign
use Rattle.cilk_check.specs.syntax.declared.operator.BinOp.{BinOp}
use Rattle.cilk_check.specs.syntax.declared.operator.BinOp.TheVariants as ops
use Rattle.cilk_check.specs.syntax.declared.un_op.UnOp.{UnOp}
use Rattle.cilk_check.specs.syntax.declared.un_op.UnOp.TheVariants as un
use Rattle.cilk_check.specs.syntax.Tree as tree
use Rattle.cilk_check.specs.syntax.Bare.{bare_expr}
use Rattle.cilk_parse_grammar.specs.Classes.{a_mark}
use Rattle.cilk_parse_grammar.specs.Operators.{operand, sign_of}
use Rattle.cilk_parse_grammar.specs.Expressions.{operators, Spells, SpellsWhole, a_number_is, a_name_is, synched_is, an_element, in_parentheses}
use Rattle.cilk_parse_grammar.specs.Expressions.{of_one, of_two, of_three}
use Rattle.cilk_parse_grammar.proofs.MovedExpr.{operators-bare}
use Rattle.cilk_laws.specs.ExprLexemes as written
use Rattle.cilk_laws.specs.ExprLexemes.{operator_mark, sign_mark, expr_lexemes, operand_lexemes}

-- lexemes as tokens, all at the place 0
abbrev pub at0 : Lexeme → Piece
at0 x = record { lexeme = x; start = 0; end = 0 }

abbrev pub all_at0 : List Lexeme → List Piece
all_at0 ls = map at0 ls

pub at0-append : (ls ks : List Lexeme) → all_at0 (ls ++ ks) ≡ all_at0 ls ++ all_at0 ks
at0-append ls ks = map-append at0 ls ks

-- ---- operators

-- how tightly an operator binds (C 1990, 6.3.5 to 6.3.14)
abbrev level : BinOp → ℕ
level ops.Or = 1
level ops.And = 2
level ops.BitOr = 3
level ops.BitXor = 4
level ops.BitAnd = 5
level ops.Equal = 6
level ops.NotEqual = 6
level ops.Less = 7
level ops.LessOrEqual = 7
level ops.Greater = 7
level ops.GreaterOrEqual = 7
level ops.ShiftLeft = 8
level ops.ShiftRight = 8
level ops.Add = 9
level ops.Subtract = 9
level ops.Multiply = 10
level ops.Divide = 10
level ops.Remainder = 10

two_of : (o : BinOp) (d : ℕ) (a b : tree.Expr) (ts us vs : List Piece) → Spells d (level o) us a → Spells d (suc (level o)) vs b
    → ts ≡ us ++ at0 (mark (operator_mark o)) ∷ vs → Spells d 0 ts (tree.binary o a b)
two_of ops.Multiply d a b ts us vs x y w = of_two (at0 (mark sign.Star)) 10 ops.Multiply refl (omega arith) x y w
two_of o d a b ts us vs x y w = of_two (at0 (mark (operator_mark o))) (level o) o refl (omega arith) x y w

signs : (o : UnOp) → sign_of (a_mark (sign_mark o)) ≡ Some o
signs un.Minus = refl
signs _ = refl

-- ---- expressions

-- what is written spells it, with no more parentheses open at once than it has operators: an operand in parentheses has one
pub record Canonical (e : tree.Expr) : Type 0 where
  pub whole : (m : ℕ) → operators e ≤ suc m → Spells m 0 (all_at0 (expr_lexemes e)) (bare_expr e)
  pub as_operand : (m q : ℕ) → operators e ≤ m → Spells m q (all_at0 (operand_lexemes e)) (bare_expr e)

bracketed : (m q : ℕ) (ls : List Lexeme) (e : tree.Expr) → 0 < operators e → operators e ≤ m
    → ((n : ℕ) → operators e ≤ suc n → Spells n 0 (all_at0 ls) (bare_expr e))
    → Spells m q (all_at0 (written.in_parentheses ls)) (bare_expr e)
bracketed zero q ls e some le w = absurd (omega (arith, some, le))
bracketed (suc m) q ls e some le w =
    in_parentheses (at0 (mark sign.OpenParenthesis)) (at0 (mark sign.CloseParenthesis)) refl (w m le) refl
    (ap (λ (l : List Piece). at0 (mark sign.OpenParenthesis) ∷ l) (at0-append ls (mark sign.CloseParenthesis ∷ [])))

module _ (x : tree.Word) (e : tree.Expr) (c : Canonical e) where
  subscripted : (m q : ℕ) → operators e ≤ suc m → Spells m q (all_at0 (expr_lexemes (tree.element x e))) (bare_expr (tree.element x e))
  subscripted m q le =
      an_element (at0 (name x.text)) (at0 (mark sign.OpenBracket)) (at0 (mark sign.CloseBracket)) x.text refl refl (c.whole m le) refl
      (ap (λ (l : List Piece). at0 (name x.text) ∷ at0 (mark sign.OpenBracket) ∷ l) (at0-append (expr_lexemes e) (mark sign.CloseBracket ∷ [])))

  canonical_element : Canonical (tree.element x e)
  canonical_element = record { whole = λ m le. subscripted m 0 (omega (arith, le)); as_operand = λ m q le. subscripted m q (omega (arith, le)) }

module _ (o : UnOp) (a : tree.Expr) (c : Canonical a) where
  one_whole : (m : ℕ) → operators (tree.unary o a) ≤ suc m → Spells m 0 (all_at0 (expr_lexemes (tree.unary o a))) (bare_expr (tree.unary o a))
  one_whole m le = of_one (at0 (mark (sign_mark o))) o (signs o) (c.as_operand m operand (omega (arith, le))) refl

  canonical_one : Canonical (tree.unary o a)
  canonical_one =
      record {
        whole = λ m le. one_whole m le;
        as_operand = λ m q le. bracketed m q (expr_lexemes (tree.unary o a)) (tree.unary o a) (omega arith)
            le one_whole;
      }

module _ (o : BinOp) (a b : tree.Expr) (c : Canonical a) (d : Canonical b) where
  two_lexemes : all_at0 (expr_lexemes (tree.binary o a b)) ≡ all_at0 (operand_lexemes a) ++ at0 (mark (operator_mark o)) ∷ all_at0 (operand_lexemes b)
  two_lexemes = at0-append (operand_lexemes a) (mark (operator_mark o) ∷ operand_lexemes b)

  two_whole : (m : ℕ) → operators (tree.binary o a b) ≤ suc m → Spells m 0 (all_at0 (expr_lexemes (tree.binary o a b))) (bare_expr (tree.binary o a b))
  two_whole m le =
      two_of o m (bare_expr a) (bare_expr b) _ (all_at0 (operand_lexemes a)) (all_at0 (operand_lexemes b))
      (c.as_operand m (level o) (omega (arith, le))) (d.as_operand m (suc (level o)) (omega (arith, le))) two_lexemes

  canonical_two : Canonical (tree.binary o a b)
  canonical_two =
      record {
        whole = λ m le. two_whole m le;
        as_operand = λ m q le. bracketed m q (expr_lexemes (tree.binary o a b)) (tree.binary o a b)
            (omega arith) le two_whole;
      }

module _ (t a b : tree.Expr) (x : Canonical t) (y : Canonical a) (v : Canonical b) where
  three_lexemes : all_at0 (expr_lexemes (tree.choose t a b)) ≡ all_at0 (operand_lexemes t) ++ at0 (mark sign.Question)
      ∷ (all_at0 (operand_lexemes a) ++ at0 (mark sign.Colon) ∷ all_at0 (operand_lexemes b))
  three_lexemes =
      at0-append (operand_lexemes t) (mark sign.Question ∷ (operand_lexemes a ++ mark sign.Colon ∷ operand_lexemes b))
      ∙ ap (λ (r : List Piece). all_at0 (operand_lexemes t) ++ at0 (mark sign.Question) ∷ r)
      (at0-append (operand_lexemes a) (mark sign.Colon ∷ operand_lexemes b))

  three_whole : (m : ℕ) → operators (tree.choose t a b) ≤ suc m → Spells m 0 (all_at0 (expr_lexemes (tree.choose t a b))) (bare_expr (tree.choose t a b))
  three_whole m le =
      of_three (at0 (mark sign.Question)) (at0 (mark sign.Colon)) refl refl refl (x.as_operand m 1 (omega (arith, le)))
      (y.as_operand m 0 (omega (arith, le))) (v.as_operand m 0 (omega (arith, le))) three_lexemes

  canonical_three : Canonical (tree.choose t a b)
  canonical_three =
      record {
        whole = λ m le. three_whole m le;
        as_operand = λ m q le. bracketed m q (expr_lexemes (tree.choose t a b)) (tree.choose t a b)
            (omega arith) le three_whole;
      }

pub canonical : (e : tree.Expr) → Canonical e
canonical (tree.number n) = record { whole = λ m le. a_number_is (at0 (number n)) n refl refl; as_operand = λ m q le. a_number_is (at0 (number n)) n refl refl }
canonical (tree.named x) =
    record {
      whole = λ m le. a_name_is (at0 (name x.text)) x.text refl refl;
      as_operand = λ m q le. a_name_is (at0 (name x.text)) x.text refl refl;
    }
canonical (tree.element x e) = canonical_element x e (canonical e)
canonical (tree.synched at) =
    record
    { whole = λ m le. synched_is (at0 (word key.Synched)) refl refl; as_operand = λ m q le. synched_is (at0 (word key.Synched)) refl refl }
canonical (tree.binary o a b) = canonical_two o a b (canonical a) (canonical b)
canonical (tree.unary o a) = canonical_one o a (canonical a)
canonical (tree.choose t a b) = canonical_three t a b (canonical t) (canonical a) (canonical b)

-- a whole expression, of which no more parentheses are open at once than it has operators
pub canonical_whole : (l d : ℕ) (e : tree.Expr) → l ≤ d → operators e ≤ l → SpellsWhole l d (all_at0 (expr_lexemes e)) (bare_expr e)
canonical_whole l d e le few = let c = canonical e in record { spelled = c.whole d (omega (arith, le, few)); few = omega (arith, operators-bare e, few) }
