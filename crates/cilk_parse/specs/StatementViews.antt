-- What is read of a part of a statement, as the rules of the grammar have it.
use Rattle.std.specs.Prelude.{Option, None}
use Rattle.cilk_parse_grammar.specs.syntax.Tree as tree
use Rattle.cilk_parse_grammar.specs.Grammar.{place_at, target_at}
use Rattle.cilk_parse_grammar.specs.Parts as parts
use Rattle.cilk_parse.specs.declared.action.Action.{Action}
use Rattle.cilk_parse.specs.declared.action.Action.TheVariants.{Write, Adjust}
use Rattle.cilk_parse.specs.declared.call_form.CallForm.{CallForm}
use Rattle.cilk_parse.specs.declared.call_form.CallForm.TheVariants.{Inlet, Function}
use Rattle.cilk_parse.specs.declared.child.Spawned.{Spawned}
use Rattle.cilk_parse.specs.declared.right_side.RightSide.{RightSide}
use Rattle.cilk_parse.specs.declared.right_side.RightSide.TheVariants.{Computed, Called}
use Rattle.cilk_parse.specs.declared.write_form.WriteForm.{WriteForm}
use Rattle.cilk_parse.specs.declared.write_form.WriteForm.TheVariants as form

abbrev pub value_of : RightSide → parts.Value
value_of (Computed value) = parts.computed value
value_of (Called callee arguments) = parts.called callee arguments.items

-- the statement in which the taker takes the value of the child
abbrev pub spawned : Spawned → tree.Taker → tree.Stmt
spawned c taker = tree.spawn_at c.at taker c.callee c.arguments.items

-- what is done to the place of the subscript and the name
abbrev pub action_of : Action → Option tree.Expr → tree.Word → tree.Move
action_of (Write op value) i x = parts.assigned (target_at x i op) (value_of value)
action_of (Adjust by) i x = tree.adjust (place_at x i) by

-- the statement that calls what has the name
abbrev pub called_by : CallForm → tree.Word → tree.Stmt
called_by (Inlet child others) x = spawned child (tree.through x others.items)
called_by (Function arguments) x = tree.move (tree.call None x arguments.items)

-- the statement that writes to the place of the subscript and the name
abbrev pub written_to : WriteForm → Option tree.Expr → tree.Word → tree.Stmt
written_to (form.Spawned op child) i x = spawned child (tree.into (target_at x i op))
written_to (form.Done action) i x = tree.move (action_of action i x)
