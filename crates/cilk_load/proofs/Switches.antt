-- How many lines a `switch` has.
use Rattle.std.proofs.Common.{◌≡◌, ◌+◌, [], ◌∷◌, length, codes, arith, length-append}
use Rattle.cilk_tree_syntax.specs.Tree.{Expr, Block, switch}
use Rattle.cilk_tree_syntax.specs.StmtLines.{stmt_lines, block_lines, switch_lines}
use Rattle.cilk_tree_syntax.proofs.SwitchLines.{switch_lines-length}

pub lines-of-switch : (test : Expr) (body : Block) → length (stmt_lines (switch test body)) ≡ length (block_lines body) + 2
lines-of-switch test body = omega (arith, length-append (switch_lines body) (codes "}" ∷ []), switch_lines-length body)
