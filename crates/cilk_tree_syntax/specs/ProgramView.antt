-- One level of what stands at the top level, and of parameters, in memory, as the plain trees that they are.
use Rattle.cilk_tree_syntax.specs.Tree as tree
use Rattle.cilk_tree_syntax.specs.declared.global_shape.GlobalShape.{GlobalShape}
use Rattle.cilk_tree_syntax.specs.declared.global_shape.GlobalShape.TheVariants.{Variable, Array}
use Rattle.cilk_tree_syntax.specs.declared.item.ItemNode.{ItemNode}
use Rattle.cilk_tree_syntax.specs.declared.item.ItemNode.TheVariants.{Global, Lock, Prototype, Procedure}
use Rattle.cilk_tree_syntax.specs.declared.parameters.Parameters.{Parameters}
use Rattle.cilk_tree_syntax.specs.declared.parameters.Parameters.TheVariants.{Ints, CommandLine}

abbrev pub parameters_of : Parameters → tree.Parameters
parameters_of (Ints names) = tree.ints names.items
parameters_of (CommandLine count strings) = tree.command_line count strings

abbrev pub global_shape_of : GlobalShape → tree.GlobalShape
global_shape_of (Variable value) = tree.global_variable value
global_shape_of (Array length) = tree.global_array length

abbrev pub item_of : ItemNode → tree.Item
item_of (Global definition) = tree.global definition
item_of (Lock name) = tree.lock name
item_of (Prototype declaration) = tree.prototype declaration
item_of (Procedure definition) = tree.procedure definition
