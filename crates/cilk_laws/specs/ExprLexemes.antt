-- The lexemes of the canonical text of an expression (C 1990, 6.3).
use Rattle.std.specs.Prelude.{List, [], ◌∷◌, ◌++◌}
use Rattle.cilk_check.specs.lexeme.Lexeme.{Lexeme, word, name, number, mark}
use Rattle.cilk_check.specs.lexeme.declared.keyword.Keyword.TheVariants as key
use Rattle.cilk_check.specs.lexeme.declared.mark.Mark.{Mark}
use Rattle.cilk_check.specs.lexeme.declared.mark.Mark.TheVariants as sign
use Rattle.cilk_check.specs.syntax.declared.operator.BinOp.{BinOp}
use Rattle.cilk_check.specs.syntax.declared.operator.BinOp.TheVariants as ops
use Rattle.cilk_check.specs.syntax.declared.un_op.UnOp.{UnOp}
use Rattle.cilk_check.specs.syntax.declared.un_op.UnOp.TheVariants as signs
use Rattle.cilk_check.specs.syntax.Tree as tree

-- the mark of an operator between two operands
abbrev pub operator_mark : BinOp → Mark
operator_mark ops.Multiply = sign.Star
operator_mark ops.Divide = sign.Slash
operator_mark ops.Remainder = sign.Percent
operator_mark ops.Add = sign.Plus
operator_mark ops.Subtract = sign.Minus
operator_mark ops.ShiftLeft = sign.ShiftLeft
operator_mark ops.ShiftRight = sign.ShiftRight
operator_mark ops.Less = sign.Less
operator_mark ops.LessOrEqual = sign.LessOrEqual
operator_mark ops.Greater = sign.Greater
operator_mark ops.GreaterOrEqual = sign.GreaterOrEqual
operator_mark ops.Equal = sign.Equal
operator_mark ops.NotEqual = sign.NotEqual
operator_mark ops.BitAnd = sign.Ampersand
operator_mark ops.BitXor = sign.Caret
operator_mark ops.BitOr = sign.Bar
operator_mark ops.And = sign.And
operator_mark ops.Or = sign.Or

-- the mark of an operator before its operand
abbrev pub sign_mark : UnOp → Mark
sign_mark signs.Minus = sign.Minus
sign_mark signs.Plus = sign.Plus
sign_mark signs.Not = sign.Exclamation
sign_mark signs.Complement = sign.Tilde

-- those of each, one after another
abbrev pub each : {A : Type 0} → (A → List Lexeme) → List A → List Lexeme
each f [] = []
each f (x ∷ xs) = f x ++ each f xs

abbrev pub in_parentheses : List Lexeme → List Lexeme
in_parentheses ls = mark sign.OpenParenthesis ∷ (ls ++ mark sign.CloseParenthesis ∷ [])

abbrev pub in_brackets : List Lexeme → List Lexeme
in_brackets ls = mark sign.OpenBracket ∷ (ls ++ mark sign.CloseBracket ∷ [])

abbrev mutual
  pub expr_lexemes : tree.Expr → List Lexeme
  expr_lexemes (tree.number n) = number n ∷ []
  expr_lexemes (tree.named x) = name x.text ∷ []
  expr_lexemes (tree.element x index) = name x.text ∷ in_brackets (expr_lexemes index)
  expr_lexemes (tree.synched at) = word key.Synched ∷ []
  expr_lexemes (tree.binary o a b) = operand_lexemes a ++ mark (operator_mark o) ∷ operand_lexemes b
  expr_lexemes (tree.unary o a) = mark (sign_mark o) ∷ operand_lexemes a
  expr_lexemes (tree.choose c a b) = operand_lexemes c ++ mark sign.Question ∷ (operand_lexemes a ++ mark sign.Colon ∷ operand_lexemes b)

  -- in parentheses where it has an operator
  pub operand_lexemes : tree.Expr → List Lexeme
  operand_lexemes (tree.number n) = number n ∷ []
  operand_lexemes (tree.named x) = name x.text ∷ []
  operand_lexemes (tree.element x index) = name x.text ∷ in_brackets (expr_lexemes index)
  operand_lexemes (tree.synched at) = word key.Synched ∷ []
  operand_lexemes (tree.binary o a b) = in_parentheses (operand_lexemes a ++ mark (operator_mark o) ∷ operand_lexemes b)
  operand_lexemes (tree.unary o a) = in_parentheses (mark (sign_mark o) ∷ operand_lexemes a)
  operand_lexemes (tree.choose c a b) = in_parentheses (operand_lexemes c ++ mark sign.Question ∷ (operand_lexemes a ++ mark sign.Colon ∷ operand_lexemes b))
