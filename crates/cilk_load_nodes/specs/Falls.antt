-- Each part of an expression is smaller than the expression.
use Rattle.std.specs.Prelude.{◌≤◌, max}
use Rattle.std.proofs.Common.{arith}
use Rattle.cilk_load_nodes.specs.Size.{term_size}
use Rattle.cilk_load_nodes.specs.View.{term_of}
use Rattle.cilk_load_nodes.specs.declared.code.CodeNode.{CodeNode}
use Rattle.cilk_load_nodes.specs.declared.code.CodeNode.TheVariants as node
use Rattle.cilk_load_nodes.specs.declared.code.Code.TheDeep.{deep-CodeNode}

pub deep_le-term_size : (n : CodeNode) → max (deep-CodeNode n) 0 ≤ term_size (term_of n)
deep_le-term_size (node.Number n) = omega arith
deep_le-term_size (node.Variable slot) = omega arith
deep_le-term_size (node.Element slot subscript) = omega arith
deep_le-term_size node.Synched = omega arith
deep_le-term_size (node.Unary op operand) = omega arith
deep_le-term_size (node.Binary op left right) = omega arith
deep_le-term_size (node.Choose test first second) = omega arith
