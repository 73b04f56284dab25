-- Each part of an expression is smaller than the expression.
use Rattle.std.specs.Prelude.{◌≤◌, max}
use Rattle.std.proofs.Common.{arith}
use Rattle.cilk_tree_syntax.specs.ExprSize.{expr_size}
use Rattle.cilk_tree_syntax.specs.ExprView.{expr_of}
use Rattle.cilk_tree_syntax.specs.declared.expr.ExprNode.{ExprNode}
use Rattle.cilk_tree_syntax.specs.declared.expr.ExprNode.TheVariants.{Number, Name, Element, Synched, Binary, Unary, Choose}
use Rattle.cilk_tree_syntax.specs.declared.expr.Expr.TheDeep.{deep-ExprNode}

pub deep_le-expr_size : (n : ExprNode) → max (deep-ExprNode n) 0 ≤ expr_size (expr_of n)
deep_le-expr_size (Number n) = omega arith
deep_le-expr_size (Name name) = omega arith
deep_le-expr_size (Element name index) = omega arith
deep_le-expr_size (Synched at) = omega arith
deep_le-expr_size (Binary op left right) = omega arith
deep_le-expr_size (Unary op operand) = omega arith
deep_le-expr_size (Choose test first second) = omega arith
