-- What the names of the tree stand for in actions.
use Rattle.std.specs.Prelude.{ℕ, List, map, option_map, Option, Some, None}
use Rattle.cilk_tree_syntax.specs.Tree as tree
use Rattle.cilk_tree_syntax.specs.Tree.{Word}
use Rattle.cilk_tree_syntax.specs.Adjustments.{operator_of}
use Rattle.cilk_load_nodes.specs.labelled.Term as term
use Rattle.cilk_load_nodes.specs.labelled.Term.{Term}
use Rattle.cilk_load_nodes.specs.declared.slot.Slot.{Slot}
use Rattle.cilk_load_nodes.specs.declared.slot_place.SlotPlace.{SlotPlace}
use Rattle.cilk_load_nodes.specs.declared.target.Target.{Target}
use Rattle.cilk_load_nodes.specs.declared.taker.Taker.{Taker}
use Rattle.cilk_load_nodes.specs.declared.taker.Taker.TheVariants.{Nothing, Into, Through}
use Rattle.cilk_load_nodes.specs.declared.action.Action.{Action}
use Rattle.cilk_load_nodes.specs.declared.action.Action.TheVariants.{Assign, Call, Spawn, Return, ReturnNothing, Print, Locking, Null, Break}
use Rattle.cilk_load_nodes.specs.declared.action.Action.TheVariants.{Continue, Sync, Abort}
use Rattle.cilk_load.specs.declared.binding.Binding.{Binding}
use Rattle.cilk_load.specs.Scope.{Scope, found, visible}

abbrev pub known_in : Scope → Word → Binding
known_in s name = found (visible s) name.text

abbrev pub slot_in : Scope → Word → Slot
slot_in s name = (known_in s name).slot

abbrev pub number_in : Scope → Word → ℕ
number_in s name = (known_in s name).number

-- an expression over slots
abbrev pub code_in : Scope → tree.Expr → Term Slot
code_in s (tree.number n) = term.number n
code_in s (tree.named name) = term.variable (slot_in s name)
code_in s (tree.element name index) = term.element (slot_in s name) (code_in s index)
code_in s (tree.synched at) = term.synched
code_in s (tree.binary op left right) = term.binary op (code_in s left) (code_in s right)
code_in s (tree.unary op operand) = term.unary op (code_in s operand)
code_in s (tree.choose test first second) = term.choose (code_in s test) (code_in s first) (code_in s second)

abbrev pub codes_in : Scope → List tree.Expr → List (Term Slot)
codes_in s es = map (code_in s) es

abbrev pub place_in : Scope → tree.Place → SlotPlace
place_in s place = record { slot = slot_in s place.name; subscript = option_map (code_in s) place.index }

abbrev pub target_in : Scope → tree.Target → Target
target_in s target = record { op = target.op; place = place_in s target.place }

abbrev pub move_in : Scope → tree.Move → Action
move_in s (tree.assign target value) = Assign (target_in s target) (code_in s value)
move_in s (tree.adjust place by) = Assign (record { op = Some (operator_of by); place = place_in s place }) (term.number 1)
move_in s (tree.call target callee arguments) = Call (option_map (target_in s) target) (number_in s callee) (codes_in s arguments)

abbrev pub taker_in : Scope → tree.Taker → Taker
taker_in s tree.nothing = Nothing
taker_in s (tree.into target) = Into (target_in s target)
taker_in s (tree.through inlet others) = Through (number_in s inlet) (codes_in s others)

abbrev pub spawn_in : Scope → tree.Taker → Word → List tree.Expr → Action
spawn_in s taker callee arguments = Spawn (taker_in s taker) (number_in s callee) (codes_in s arguments)

abbrev pub return_in : Scope → Option tree.Expr → Action
return_in s None = ReturnNothing
return_in s (Some value) = Return (code_in s value)

-- an initialiser is an assignment
abbrev pub initialiser_in : Scope → Word → tree.Expr → Action
initialiser_in s name value =
    Assign (record { op = None; place = record { slot = slot_in s name; subscript = None } }) (code_in s value)

-- the action of a statement that is one action
abbrev pub action_in : Scope → tree.Stmt → Option Action
action_in s (tree.move what) = Some (move_in s what)
action_in s (tree.spawn_at place taker callee arguments) = Some (spawn_in s taker callee arguments)
action_in s (tree.print format arguments) = Some (Print format.bytes (codes_in s arguments))
action_in s (tree.locking what name) = Some (Locking what (number_in s name))
action_in s tree.null = Some Null
action_in s (tree.sync_at place) = Some Sync
action_in s (tree.abort_at place) = Some Abort
action_in s (tree.break_at place) = Some Break
action_in s (tree.continue_at place) = Some Continue
action_in s (tree.return_at place value) = Some (return_in s value)
action_in s other = None
