-- What a step evaluates that may be evaluated before it is taken, by one who holds no lock meanwhile.
use Rattle.std.specs.Prelude.{ℕ, ℤ, Bool, ◌&&◌, if◌then◌else◌, List, Option, Some, None, is_some, option_and_then, option_map, slice_get, ◌≡◌, Result, Ok}
use Rattle.cilk_load.specs.model.declared.trap.Trap.{Trap}
use Rattle.cilk_load.specs.labelled.Term.{Term}
use Rattle.cilk_load.specs.labelled.Value.{◌>>=◌, value_of}
use Rattle.cilk_machine_plan.specs.nodes.declared.slot.Slot.{Slot}
use Rattle.cilk_machine_plan.specs.eval.declared.known.Known.{Known}
use Rattle.cilk_machine_plan.specs.eval.Known.{known, known_of}
use Rattle.cilk_machine_plan.specs.nodes.Reads.{is_plain}
use Rattle.cilk_machine_plan.specs.nodes.Areas.{Cells, slot_cell}
use Rattle.cilk_machine_plan.specs.model.Path.{Path}
use Rattle.cilk_machine_plan.specs.syntax.Tree.{Program}
use Rattle.cilk_machine_plan.specs.model.Values.{combined}
use Rattle.cilk_machine_plan.specs.nodes.declared.action.Action.{Action}
use Rattle.cilk_machine_plan.specs.nodes.declared.action.Action.TheVariants.{Assign, Call, Spawn, Print, Locking, Null, Break, Continue, Test, Sync}
use Rattle.cilk_machine_plan.specs.nodes.declared.action.Action.TheVariants.{Abort, Return, ReturnNothing, Close}
use Rattle.cilk_machine_plan.specs.nodes.declared.node.Node.{Node}
use Rattle.cilk_machine_plan.specs.nodes.declared.slot_place.SlotPlace.{SlotPlace}
use Rattle.cilk_machine_plan.specs.nodes.Table.{node_of}
use Rattle.cilk_machine_plan.specs.spawn.Nodes.{path_at}
use Rattle.cilk_machine_plan.specs.eval.declared.effect.Effect.{Effect}
use Rattle.cilk_machine_plan.specs.eval.declared.effect.Effect.TheVariants.{Writes, Answers}
use Rattle.cilk_machine_plan.specs.StepInput.{StepInput, id_of, own_node, head_number, cells_in}
use Rattle.cilk_machine_plan.specs.Made.{at_boundary}
use Rattle.cilk_machine_step.specs.declared.peek.Peek as coded

-- an instance, the action that it acts next, the expression that this evaluates, and what the variables hold that stand in it
pub record Peek : Type 0 where
  pub path : Path
  pub n : ℕ
  pub code : Term Slot
  pub values : List Known

abbrev pub plain : Term Slot → Option (Term Slot)
plain code = if is_plain code then Some code else None

abbrev pub is_element : SlotPlace → Bool
is_element place = is_some place.subscript

-- the right side of an assignment to a variable that is no element, an initialiser's value and the 1 of `++` and `--` among them, or a test,
-- where neither an element nor `SYNCHED` stands in it
abbrev pub code_of : Action → Option (Term Slot)
code_of (Assign target code) = if is_element target.place then None else plain code
code_of (Call target callee arguments) = None
code_of (Spawn taker callee arguments) = None
code_of (Print format arguments) = None
code_of (Locking what lock) = None
code_of Null = None
code_of Break = None
code_of Continue = None
code_of (Test code) = plain code
code_of Sync = None
code_of Abort = None
code_of (Return code) = None
code_of ReturnNothing = None
code_of Close = None

-- a delivery waits, and is taken before the action
abbrev pub is_delayed : StepInput → Node → Bool
is_delayed g node = at_boundary g node && is_some (slice_get (own_node g).waiting 0)

abbrev pub code_ahead : StepInput → Option Node → Option (Term Slot)
code_ahead g None = None
code_ahead g (Some node) = if is_delayed g node then None else code_of node.action

-- the expression that the step of the instance evaluates, if it acts and the expression is such a one
abbrev pub code_in : StepInput → Option (Term Slot)
code_in g = if (own_node g).aborted then None else code_ahead g (node_of g.program (head_number g))

abbrev pub peek_by : StepInput → Term Slot → Peek
peek_by g code = record { path = path_at g.nodes (id_of g); n = head_number g; code = code; values = known_of (cells_in g) code }

-- what one sees who looks ahead at the step of the instance
abbrev pub peek_in : StepInput → Option Peek
peek_in g = option_map (peek_by g) (code_in g)

abbrev pub peek_of : coded.Peek → Peek
peek_of peek = record { path = peek.path; n = peek.n; code = peek.code; values = peek.values.items }

-- what an action comes to whose expression has this value: the variable that it assigns to is read only now (C 1990, 6.3.16)
abbrev pub effect_by : Cells → Action → Result ℤ Trap → Result Effect Trap
effect_by cells (Assign target code) r =
    r >>= λ z. combined target.op (slot_cell cells target.place.slot 0) z >>= λ y. Ok (Writes (record { slot = target.place.slot; index = 0 }) y)
effect_by cells act r = r >>= λ z. Ok (Answers z)

-- the expression that an action evaluates, if it is such a one
abbrev pub code_at : Program → ℕ → Option (Term Slot)
code_at p n = option_and_then (λ (node : Node). code_of node.action) (node_of p n)

-- what one sees of the instance where that stands before action n
abbrev pub taken_down : StepInput → ℕ → Term Slot → List Known → Peek
taken_down g n code values = record { path = path_at g.nodes (id_of g); n = n; code = code; values = values }

-- one sees an action of this number, whose expression has this value over what the variables hold
pub record IsSeenAs (g : StepInput) (n : ℕ) (value : Result ℤ Trap) : Type 0 where
  pub peek : Peek
  pub seen : peek_in g ≡ Some peek
  pub number : peek.n ≡ n
  pub value_is : value ≡ value_of (known peek.values) peek.code
