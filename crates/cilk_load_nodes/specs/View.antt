-- One level of an expression in memory, as the plain expression that it is.
use Rattle.cilk_model.specs.labelled.Term as term
use Rattle.cilk_model.specs.labelled.Term.{Term}
use Rattle.cilk_load_nodes.specs.declared.slot.Slot.{Slot}
use Rattle.cilk_load_nodes.specs.declared.code.CodeNode.{CodeNode}
use Rattle.cilk_load_nodes.specs.declared.code.CodeNode.TheVariants.{Number, Variable, Element, Synched, Unary, Binary, Choose}

abbrev pub term_of : CodeNode → Term Slot
term_of (Number n) = term.number n
term_of (Variable slot) = term.variable slot
term_of (Element slot subscript) = term.element slot subscript.value
term_of Synched = term.synched
term_of (Unary op operand) = term.unary op operand.value
term_of (Binary op left right) = term.binary op left.value right.value
term_of (Choose test first second) = term.choose test.value first.value second.value
