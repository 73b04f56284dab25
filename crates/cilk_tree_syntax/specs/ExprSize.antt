-- A number that is larger for an expression than for its parts.
use Rattle.std.specs.Prelude.{ℕ, ◌+◌}
use Rattle.cilk_tree_syntax.specs.Tree.{Expr, number, named, element, synched, binary, unary, choose}

abbrev pub expr_size : Expr → ℕ
expr_size (number n) = 0
expr_size (named name) = 0
expr_size (element name index) = expr_size index + 1
expr_size (synched at) = 0
expr_size (binary op left right) = expr_size left + expr_size right + 1
expr_size (unary op operand) = expr_size operand + 1
expr_size (choose test first second) = expr_size test + expr_size first + expr_size second + 1
