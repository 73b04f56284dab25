use Rattle.std.proofs.Common.{◌+◌, ◌*◌}
use Rattle.cilk_tree_syntax.specs.ExprSize.{expr_size}
use Rattle.cilk_tree.proofs.expr.+put_expr.Given as goal

abbrev pub decreases-put_expr : goal.decreases-put_expr
decreases-put_expr l = 3 * expr_size l.expr.now

abbrev pub decreases-put_operand : goal.decreases-put_operand
decreases-put_operand l = 3 * expr_size l.expr.now + 1

abbrev pub decreases-put_element : goal.decreases-put_element
decreases-put_element l = 3 * expr_size l.index.now + 2

abbrev pub decreases-put_binary : goal.decreases-put_binary
decreases-put_binary l = 3 * (expr_size l.left.now + expr_size l.right.now) + 2

abbrev pub decreases-put_unary : goal.decreases-put_unary
decreases-put_unary l = 3 * expr_size l.operand.now + 2

abbrev pub decreases-put_choice : goal.decreases-put_choice
decreases-put_choice l = 3 * (expr_size l.test.now + expr_size l.first.now + expr_size l.second.now) + 2
