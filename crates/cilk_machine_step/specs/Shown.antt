-- The same over slots: what a scene shows of the cells that the next step reads and writes.
use Rattle.std.specs.Prelude.{ℕ, suc, ◌==◌, Bool, true, false, ◌&&◌, if◌then◌else◌, List, [], ◌∷◌, ◌++◌, map, flat_map, Option, Some, None, Result, Ok, Err}
use Rattle.std.specs.Prelude.{position, unwrap_or}
use Rattle.cilk_machine_plan.specs.model.declared.trap.Trap.{Trap}
use Rattle.cilk_machine_plan.specs.labelled.Term.{Term}
use Rattle.cilk_machine_plan.specs.labelled.Value.{Environment}
use Rattle.cilk_machine_plan.specs.syntax.declared.operator.BinOp.{BinOp}
use Rattle.cilk_machine_plan.specs.nodes.declared.area.Area.{Area}
use Rattle.cilk_machine_plan.specs.nodes.declared.area.Area.TheVariants.{Own, Outer, Global}
use Rattle.cilk_machine_plan.specs.nodes.declared.slot.Slot.{Slot}
use Rattle.cilk_machine_plan.specs.nodes.Areas.{environment}
use Rattle.cilk_machine_plan.specs.model.Path.{Path}
use Rattle.cilk_machine_plan.specs.nodes.declared.var.Var.{Var}
use Rattle.cilk_machine_plan.specs.nodes.declared.body.Body.{Body}
use Rattle.cilk_machine_plan.specs.nodes.declared.node.Node.{Node}
use Rattle.cilk_machine_plan.specs.nodes.declared.target.Target.{Target}
use Rattle.cilk_machine_plan.specs.nodes.declared.taker.Taker.{Taker}
use Rattle.cilk_machine_plan.specs.nodes.declared.taker.Taker.TheVariants.{Nothing, Into, Through}
use Rattle.cilk_machine_plan.specs.nodes.declared.action.Action.{Action}
use Rattle.cilk_machine_plan.specs.nodes.declared.action.Action.TheVariants.{Assign, Call, Spawn, Print, Locking, Null, Break, Continue, Test, Sync}
use Rattle.cilk_machine_plan.specs.nodes.declared.action.Action.TheVariants.{Abort, Return, ReturnNothing, Close}
use Rattle.cilk_machine_plan.specs.nodes.Bodies.{body_of, globals_of}
use Rattle.cilk_machine_plan.specs.nodes.Table.{node_of}
use Rattle.cilk_machine_plan.specs.frame.declared.awaited.Await.{Await}
use Rattle.cilk_machine_plan.specs.frame.Frames.{depth, top_of}
use Rattle.cilk_machine_plan.specs.spawn.declared.delivery.Delivery.{Delivery}
use Rattle.cilk_machine_plan.specs.frame.declared.receiver.Receiver as receiver
use Rattle.cilk_machine_plan.specs.frame.declared.receiver.Receiver.{Receiver}
use Rattle.cilk_machine_plan.specs.spawn.Nodes.{path_at}
use Rattle.cilk_machine_plan.specs.agree.declared.lock.Lock.{Lock}
use Rattle.cilk_machine_plan.specs.agree.Locks.{is_held_by}
use Rattle.cilk_machine_plan.specs.effects.Effects.{index_of}
use Rattle.cilk_machine_plan.specs.StepInput.{StepInput, id_of, own_node, head_number, cells_in, is_outer}
use Rattle.cilk_machine_plan.specs.Made.{at_boundary, leaves, is_function_body, target_of_node}
use Rattle.cilk_machine_step.specs.Reads.{Read, cell, whether, reads_in, reads_in_all}
use Rattle.cilk_machine_step.specs.Accesses.{Where, global, own, output, synched, Access, read, write}

-- which of these variables lies there, counted from 0
abbrev pub begins_at : ℕ → Var → Bool
begins_at offset v = v.slot.offset == offset

abbrev pub number_at : ℕ → List Var → ℕ
number_at offset vars = unwrap_or (position (begins_at offset) vars) 0

abbrev pub vars_of : Option Body → List Var
vars_of None = []
vars_of (Some body) = body.vars

-- the variables of the instance's procedure
abbrev pub own_vars : StepInput → List Var
own_vars g = vars_of (body_of g.program (own_node g).procedure)

abbrev pub own_path : StepInput → Path
own_path g = path_at g.nodes (id_of g)

-- a cell of an area, as an activation sees it that is the procedure's own or not
abbrev pub seen_in : StepInput → Bool → Area → ℕ → ℕ → List Where
seen_in g alone Global offset k = global (number_at offset (globals_of g.program)) k ∷ []
seen_in g alone Outer offset k = own (own_path g) (number_at offset (own_vars g)) k ∷ []
seen_in g true Own offset k = own (own_path g) (number_at offset (own_vars g)) k ∷ []
seen_in g false Own offset k = []

abbrev pub seen : StepInput → Bool → Slot → ℕ → List Where
seen g alone slot k = seen_in g alone slot.area slot.offset k

abbrev pub read_at : StepInput → Read Slot → List Access
read_at g (cell slot k) = map read (seen g (is_outer g) slot k)
read_at g whether = read (synched (own_path g)) ∷ []

abbrev pub reads_of : StepInput → List (Read Slot) → List Access
reads_of g reads = flat_map (read_at g) reads

-- a place takes a value, and is read where it has an operator
abbrev pub update : StepInput → Bool → Option BinOp → Slot → ℕ → List Access
update g alone None slot k = map write (seen g alone slot k)
update g alone (Some op) slot k = map read (seen g alone slot k) ++ map write (seen g alone slot k)

abbrev pub update_at : StepInput → Option BinOp → Slot → Result ℕ Trap → List Access
update_at g op slot (Ok k) = update g (is_outer g) op slot k
update_at g op slot (Err trap) = []

abbrev pub env_in : StepInput → Environment Slot
env_in g = environment (cells_in g)

abbrev pub subscript_reads : Environment Slot → Option (Term Slot) → List (Read Slot)
subscript_reads env None = []
subscript_reads env (Some t) = reads_in env t

abbrev pub place_reads : Environment Slot → Option Target → List (Read Slot)
place_reads env None = []
place_reads env (Some target) = subscript_reads env target.place.subscript

abbrev pub taker_reads : Environment Slot → Taker → List (Read Slot)
taker_reads env Nothing = []
taker_reads env (Into target) = subscript_reads env target.place.subscript
taker_reads env (Through inlet others) = reads_in_all env others

-- what the expressions of an action read
abbrev pub act_reads : Environment Slot → Action → List (Read Slot)
act_reads env (Assign target code) = subscript_reads env target.place.subscript ++ reads_in env code
act_reads env (Call target callee codes) = place_reads env target ++ reads_in_all env codes
act_reads env (Spawn taker callee codes) = taker_reads env taker ++ reads_in_all env codes
act_reads env (Print format codes) = reads_in_all env codes
act_reads env (Locking what lock) = []
act_reads env Null = []
act_reads env Break = []
act_reads env Continue = []
act_reads env (Test code) = reads_in env code
act_reads env Sync = []
act_reads env Abort = []
act_reads env (Return code) = reads_in env code
act_reads env ReturnNothing = []
act_reads env Close = []

-- what it does behind them
abbrev pub act_updates : StepInput → Action → List Access
act_updates g (Assign target code) = update_at g target.op target.place.slot (index_of (cells_in g) target.place)
act_updates g (Call target callee codes) = []
act_updates g (Spawn taker callee codes) = []
act_updates g (Print format codes) = write output ∷ []
act_updates g (Locking what lock) = []
act_updates g Null = []
act_updates g Break = []
act_updates g Continue = []
act_updates g (Test code) = []
act_updates g Sync = []
act_updates g Abort = []
act_updates g (Return code) = []
act_updates g ReturnNothing = []
act_updates g Close = []

-- the place of the call that awaits the value of a C function, as the caller sees it
abbrev pub awaited_at : StepInput → ℕ → Option Target → List Access
awaited_at g k None = []
awaited_at g k (Some target) = update g (depth g.frame == 2) target.op target.place.slot k

abbrev pub awaited : StepInput → Option Await → List Access
awaited g None = []
awaited g (Some w) = awaited_at g w.index (target_of_node (node_of g.program w.n))

abbrev pub by_leaving : StepInput → Node → List Access
by_leaving g node =
    if leaves node.action && is_function_body (body_of g.program node.body) then awaited g (top_of g.frame).awaits else []

abbrev pub acted : StepInput → Node → List Access
acted g node = (reads_of g (act_reads (env_in g) node.action) ++ act_updates g node.action) ++ by_leaving g node

-- a value is taken
abbrev pub taken : StepInput → Receiver → List Access
taken g receiver.TheVariants.Nothing = []
taken g (receiver.TheVariants.Place op slot index n) = update g (is_outer g) op slot index
taken g (receiver.TheVariants.Call n others) = []

abbrev pub by_deliveries : StepInput → Node → List Delivery → List Access
by_deliveries g node [] = acted g node
by_deliveries g node (oldest ∷ others) = taken g oldest.receiver

abbrev pub by_node : StepInput → Node → List Access
by_node g node = if at_boundary g node then by_deliveries g node (own_node g).waiting else acted g node

abbrev pub by_head : StepInput → Option Node → List Access
by_head g None = []
by_head g (Some node) = by_node g node

-- of the step that the instance takes next
abbrev pub touched : StepInput → List Access
touched g = if (own_node g).aborted then [] else by_head g (node_of g.program (head_number g))

-- the locks that instance k holds, by their numbers from this one on
abbrev pub held_from : ℕ → ℕ → List Lock → List ℕ
held_from n k [] = []
held_from n k (lock ∷ locks) = if is_held_by k lock then n ∷ held_from (suc n) k locks else held_from (suc n) k locks

abbrev pub held : StepInput → List ℕ
held g = held_from 0 (id_of g) g.locks
