-- One level of the moves of a `for`, of what takes a child's value, and of what a declaration declares, in memory, as
-- the plain trees that they are.
use Rattle.cilk_tree_syntax.specs.Tree as tree
use Rattle.cilk_tree_syntax.specs.declared.moves.MoveNode.{MoveNode}
use Rattle.cilk_tree_syntax.specs.declared.moves.MoveNode.TheVariants.{Assign, Adjust, Call}
use Rattle.cilk_tree_syntax.specs.declared.taker.Taker.{Taker}
use Rattle.cilk_tree_syntax.specs.declared.taker.Taker.TheVariants.{Nothing, Into, Through}
use Rattle.cilk_tree_syntax.specs.declared.shape.Shape.{Shape}
use Rattle.cilk_tree_syntax.specs.declared.shape.Shape.TheVariants.{Variable, Array}

abbrev pub move_of : MoveNode → tree.Move
move_of (Assign target value) = tree.assign target value
move_of (Adjust place by) = tree.adjust place by
move_of (Call target callee arguments) = tree.call target callee arguments.items

abbrev pub taker_of : Taker → tree.Taker
taker_of Nothing = tree.nothing
taker_of (Into target) = tree.into target
taker_of (Through inlet others) = tree.through inlet others.items

abbrev pub shape_of : Shape → tree.Shape
shape_of (Variable value) = tree.variable value
shape_of (Array length) = tree.array length
