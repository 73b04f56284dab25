-- The plan of a step, as the code makes it.
use Rattle.std.specs.Prelude.{pos, ℕ, ◌+◌, ◌-◌, ◌^◌, ℤ, Bool, true, false, not, ◌&&◌, ◌||◌, ◌==◌, nat_lt, nat_le, if◌then◌else◌, List, [], ◌∷◌, length, Option}
use Rattle.std.specs.Prelude.{Some, None, Result, Ok, Err, unwrap_or}
use Rattle.cilk_machine_agree.specs.model.declared.trap.Trap.{Trap}
use Rattle.cilk_machine_agree.specs.nodes.Areas.{slot_cell}
use Rattle.cilk_machine_agree.specs.model.Values.{combined}
use Rattle.cilk_machine_agree.specs.model.Change.{is_function}
use Rattle.cilk_machine_agree.specs.nodes.declared.body.Body.{Body}
use Rattle.cilk_machine_agree.specs.nodes.declared.node.Node as action
use Rattle.cilk_machine_agree.specs.nodes.declared.target.Target.{Target}
use Rattle.cilk_machine_agree.specs.nodes.declared.taker.Taker.{Taker}
use Rattle.cilk_machine_agree.specs.nodes.declared.taker.Taker.TheVariants.{Nothing, Into, Through}
use Rattle.cilk_machine_agree.specs.nodes.declared.action.Action.{Action}
use Rattle.cilk_machine_agree.specs.nodes.declared.action.Action.TheVariants.{Assign, Call, Spawn, Print, Locking, Null, Break, Continue, Test, Sync}
use Rattle.cilk_machine_agree.specs.nodes.declared.action.Action.TheVariants.{Abort, Return, ReturnNothing, Close}
use Rattle.cilk_machine_agree.specs.nodes.Table.{successor, node_of}
use Rattle.cilk_machine_agree.specs.nodes.Bodies.{body_of}
use Rattle.cilk_machine_agree.specs.frame.declared.awaited.Await.{Await}
use Rattle.cilk_machine_agree.specs.frame.Frames.{Frame, depth, top_of, left}
use Rattle.cilk_machine_agree.specs.spawn.declared.delivery.Delivery.{Delivery}
use Rattle.cilk_machine_agree.specs.frame.declared.receiver.Receiver as receiver
use Rattle.cilk_machine_agree.specs.frame.declared.receiver.Receiver.{Receiver}
use Rattle.cilk_machine_agree.specs.spawn.Nodes.{is_synched, has_live_child, live_ids}
use Rattle.cilk_eval.specs.declared.effect.Effect.{Effect}
use Rattle.cilk_eval.specs.declared.effect.Effect.TheVariants.{Writes, Answers, Enters, Gives, Starts, Prints, TurnsLock, Marks}
use Rattle.cilk_eval.specs.effects.Effects.{effect_in}
use Rattle.cilk_machine_agree.specs.Locks.{LockTurn, lock_turned, refused, blocked, lock_turn_among}
use Rattle.cilk_machine_agree.specs.frame.declared.trap_kind.TrapKind.{TrapKind}
use Rattle.cilk_machine_agree.specs.frame.declared.trap_kind.TrapKind.TheVariants as kind
use Rattle.cilk_machine_plan.specs.declared.plan.Plan.{Plan}
use Rattle.cilk_machine_plan.specs.declared.plan.Plan.TheVariants as plan
use Rattle.cilk_machine_plan.specs.StepInput.{StepInput, id_of, own_node, head_number, cells_by, cells_in, holds_lock, is_outer}

abbrev pub traps : TrapKind → ℕ → Plan
traps why n = plan.Trap why n

-- where there is room, this; else the trap
abbrev pub if_room : Bool → TrapKind → ℕ → Plan → Plan
if_room true why n made = made
if_room false why n made = traps why n

-- the action that comes next
abbrev pub next_of : action.Node → ℤ → ℕ
next_of node answer = unwrap_or (successor node answer) 0

-- a cell takes what comes of its old value and this one
abbrev pub takes_by : ℕ → Result ℤ Trap → (ℤ → Plan) → Plan
takes_by n (Ok z) made = made z
takes_by n (Err trap) made = traps (kind.Value trap) n

abbrev pub target_of_action : Action → Option Target
target_of_action (Assign target value) = None
target_of_action (Call target callee arguments) = target
target_of_action (Spawn taker callee arguments) = None
target_of_action (Print format arguments) = None
target_of_action (Locking what lock) = None
target_of_action Null = None
target_of_action Break = None
target_of_action Continue = None
target_of_action (Test value) = None
target_of_action Sync = None
target_of_action Abort = None
target_of_action (Return value) = None
target_of_action ReturnNothing = None
target_of_action Close = None

-- the place of call n, if it has one
abbrev pub target_of_node : Option action.Node → Option Target
target_of_node None = None
target_of_node (Some node) = target_of_action node.action

abbrev pub inlet_of_taker : Taker → ℕ
inlet_of_taker Nothing = 0
inlet_of_taker (Into target) = 0
inlet_of_taker (Through inlet others) = inlet

abbrev pub inlet_of_action : Action → ℕ
inlet_of_action (Assign target value) = 0
inlet_of_action (Call target callee arguments) = 0
inlet_of_action (Spawn taker callee arguments) = inlet_of_taker taker
inlet_of_action (Print format arguments) = 0
inlet_of_action (Locking what lock) = 0
inlet_of_action Null = 0
inlet_of_action Break = 0
inlet_of_action Continue = 0
inlet_of_action (Test value) = 0
inlet_of_action Sync = 0
inlet_of_action Abort = 0
inlet_of_action (Return value) = 0
inlet_of_action ReturnNothing = 0
inlet_of_action Close = 0

-- the inlet of spawn n
abbrev pub inlet_of_node : Option action.Node → ℕ
inlet_of_node None = 0
inlet_of_node (Some node) = inlet_of_action node.action

-- the caller's cell takes the value of the function that is left: its old value is read now (C 1990, 6.6.6.4)
abbrev pub answered_at : StepInput → ℕ → ℤ → ℕ → Option Target → Plan
answered_at g n z index None = plan.Leave n
answered_at g n z index (Some target) =
    takes_by n (combined target.op (slot_cell (cells_by g (left g.frame)) target.place.slot index) z)
    (λ y. plan.Answer n (record { slot = target.place.slot; index = index }) y)

abbrev pub answered : StepInput → ℕ → ℤ → Option Await → Plan
answered g n z None = plan.Leave n
answered g n z (Some w) = answered_at g n z w.index (target_of_node (node_of g.program w.n))

abbrev pub is_function_body : Option Body → Bool
is_function_body None = false
is_function_body (Some body) = is_function body.owner

-- a body is left: of the procedure, of a C function, of an inlet
abbrev pub given : StepInput → ℕ → action.Node → ℤ → Plan
given g n node z =
    if is_outer g then plan.Return n z
    else (if is_function_body (body_of g.program node.body) then answered g n z (top_of g.frame).awaits
    else plan.Leave n)

abbrev pub lock_turned_to : ℕ → ℕ → ℕ → LockTurn → Plan
lock_turned_to n to lock (lock_turned now) = plan.TurnLock n lock now to
lock_turned_to n to lock refused = traps kind.Lock n
lock_turned_to n to lock blocked = plan.Wait

-- one more child may start
abbrev pub has_room : StepInput → Bool
has_room g = nat_lt (length (live_ids g.nodes)) 65536 && nat_lt (own_node g).children (2 ^ 32 - 1)

abbrev pub by_effect : StepInput → ℕ → action.Node → Result Effect Trap → Plan
by_effect g n node (Err trap) = traps (kind.Value trap) n
by_effect g n node (Ok (Writes reached z)) = plan.Write n reached z (next_of node (pos 1))
by_effect g n node (Ok (Answers answer)) = plan.Go n (next_of node answer)
by_effect g n node (Ok (Enters awaits callee zs)) =
    if_room (nat_lt (depth g.frame) 256) kind.Depth n (plan.Call n awaits callee zs (next_of node (pos 1)))
by_effect g n node (Ok (Gives z)) = given g n node z
by_effect g n node (Ok (Starts taken callee zs)) =
    if_room (has_room g) kind.Instances n (plan.Spawn n taken callee zs (next_of node (pos 1)))
by_effect g n node (Ok (Prints bytes)) =
    if_room (nat_le (g.printed + length bytes) 1048576) kind.Output n (plan.Print n bytes (next_of node (pos 1)))
by_effect g n node (Ok (TurnsLock what lock)) = lock_turned_to n (next_of node (pos 1)) lock (lock_turn_among g.locks (id_of g) what lock)
by_effect g n node (Ok Marks) = plan.Abort n (next_of node (pos 1))

abbrev pub leaves : Action → Bool
leaves (Assign target value) = false
leaves (Call target callee arguments) = false
leaves (Spawn taker callee arguments) = false
leaves (Print format arguments) = false
leaves (Locking what lock) = false
leaves Null = false
leaves Break = false
leaves Continue = false
leaves (Test value) = false
leaves Sync = false
leaves Abort = false
leaves (Return value) = true
leaves ReturnNothing = true
leaves Close = true

abbrev pub is_sync : Action → Bool
is_sync (Assign target value) = false
is_sync (Call target callee arguments) = false
is_sync (Spawn taker callee arguments) = false
is_sync (Print format arguments) = false
is_sync (Locking what lock) = false
is_sync Null = false
is_sync Break = false
is_sync Continue = false
is_sync (Test value) = false
is_sync Sync = true
is_sync Abort = false
is_sync (Return value) = false
is_sync ReturnNothing = false
is_sync Close = false

abbrev pub is_spawn : Action → Bool
is_spawn (Assign target value) = false
is_spawn (Call target callee arguments) = false
is_spawn (Spawn taker callee arguments) = true
is_spawn (Print format arguments) = false
is_spawn (Locking what lock) = false
is_spawn Null = false
is_spawn Break = false
is_spawn Continue = false
is_spawn (Test value) = false
is_spawn Sync = false
is_spawn Abort = false
is_spawn (Return value) = false
is_spawn ReturnNothing = false
is_spawn Close = false

-- the procedure's own activation waits there for its children (Cilk 5.4 manual, `sync`, `return`)
abbrev pub waits_here : StepInput → action.Node → Bool
waits_here g node = is_outer g && (is_sync node.action || leaves node.action)

-- a Cilk thread or an inlet ends there
abbrev pub ends_thread : StepInput → action.Node → Bool
ends_thread g node =
    is_sync node.action
    || (is_spawn node.action || (leaves node.action && (is_outer g || not (is_function_body (body_of g.program node.body)))))

abbrev pub acted : StepInput → ℕ → action.Node → Plan
acted g n node =
    if ends_thread g node && holds_lock g then traps kind.HeldLock n
    else (if waits_here g node && not (is_synched g.nodes (id_of g)) then plan.Park
    else by_effect g n node (effect_in (cells_in g) n node.action))

abbrev pub taken_by : StepInput → ℕ → ℤ → Receiver → Plan
taken_by g child z receiver.TheVariants.Nothing = plan.Wait
taken_by g child z (receiver.TheVariants.Place op slot index n) =
    takes_by n (combined op (slot_cell (cells_in g) slot index) z) (λ y. plan.Take child n (record { slot = slot; index = index }) y)
taken_by g child z (receiver.TheVariants.Call n others) = plan.Enter child n (inlet_of_node (node_of g.program n)) (z ∷ others)

-- between two threads of the procedure of a frame that comes to an action (Cilk 5.4 manual, `inlet`)
abbrev pub between_threads : Frame → Action → Bool
between_threads f what = depth f == 1 && (f.boundary || (is_sync what || leaves what))

abbrev pub at_boundary : StepInput → action.Node → Bool
at_boundary g node = between_threads g.frame node.action

abbrev pub by_deliveries : StepInput → ℕ → action.Node → List Delivery → Plan
by_deliveries g n node [] = acted g n node
by_deliveries g n node (oldest ∷ others) = taken_by g oldest.child oldest.value oldest.receiver

abbrev pub by_node : StepInput → ℕ → action.Node → Plan
by_node g n node = if at_boundary g node then by_deliveries g n node (own_node g).waiting else acted g n node

abbrev pub by_head : StepInput → ℕ → Option action.Node → Plan
by_head g n None = plan.Wait
by_head g n (Some node) = by_node g n node

abbrev pub aborted : StepInput → Plan
aborted g = if has_live_child g.nodes (id_of g) then plan.Park else plan.End

-- the plan of the step that the instance takes
abbrev pub planned : StepInput → Plan
planned g = if (own_node g).aborted then aborted g else by_head g (head_number g) (node_of g.program (head_number g))
