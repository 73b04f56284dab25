-- One level of an expression in memory, as the plain tree that it is.
use Rattle.cilk_tree_syntax.specs.Tree as tree
use Rattle.cilk_tree_syntax.specs.declared.expr.ExprNode.{ExprNode}
use Rattle.cilk_tree_syntax.specs.declared.expr.ExprNode.TheVariants.{Number, Name, Element, Synched, Binary, Unary, Choose}

abbrev pub expr_of : ExprNode → tree.Expr
expr_of (Number n) = tree.number n
expr_of (Name name) = tree.named name
expr_of (Element name index) = tree.element name index.value
expr_of (Synched at) = tree.synched at
expr_of (Binary op left right) = tree.binary op left.value right.value
expr_of (Unary op operand) = tree.unary op operand.value
expr_of (Choose test first second) = tree.choose test.value first.value second.value
