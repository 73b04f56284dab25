-- No effect but that of a call of a lock makes an instance wait.
use Rattle.std.proofs.Common.{pos, ◌≡◌, ℕ, ℤ, Bool, true, false, not, ◌&&◌, ◌||◌, List, Option, Some, None, Result, Ok, Err, refl, ◌∙◌, if◌then◌else◌}
use Rattle.cilk_load.specs.model.declared.trap.Trap.{Trap}
use Rattle.cilk_load.specs.labelled.Value.{value_of, values_of, ◌>>=◌}
use Rattle.cilk_machine_plan.specs.nodes.declared.slot.Slot.{Slot}
use Rattle.cilk_load.specs.labelled.Term.{Term}
use Rattle.cilk_machine_plan.specs.nodes.Areas.{Cells, environment, slot_cell}
use Rattle.cilk_machine_plan.specs.model.Values.{combined}
use Rattle.cilk_machine_plan.specs.model.Printing.{printed}
use Rattle.cilk_machine_plan.specs.nodes.declared.action.Action.{Action}
use Rattle.cilk_machine_plan.specs.nodes.declared.action.Action.TheVariants.{Assign, Call, Spawn, Print, Locking, Null, Break, Continue, Test, Sync}
use Rattle.cilk_machine_plan.specs.nodes.declared.action.Action.TheVariants.{Abort, Return, ReturnNothing, Close}
use Rattle.cilk_machine_plan.specs.nodes.declared.node.Node.{Node}
use Rattle.cilk_machine_plan.specs.nodes.declared.target.Target.{Target}
use Rattle.cilk_machine_plan.specs.nodes.declared.taker.Taker.{Taker}
use Rattle.cilk_machine_plan.specs.nodes.declared.taker.Taker.TheVariants.{Nothing, Into, Through}
use Rattle.cilk_machine_plan.specs.nodes.Table.{node_of}
use Rattle.cilk_machine_plan.specs.nodes.Bodies.{body_of}
use Rattle.cilk_machine_plan.specs.frame.declared.awaited.Await.{Await}
use Rattle.cilk_machine_plan.specs.frame.Frames.{top_of, left}
use Rattle.cilk_machine_plan.specs.frame.declared.receiver.Receiver as receiver
use Rattle.cilk_machine_plan.specs.frame.declared.receiver.Receiver.{Receiver}
use Rattle.cilk_machine_plan.specs.spawn.Nodes.{is_synched, has_live_child}
use Rattle.cilk_machine_plan.specs.eval.declared.effect.Effect.{Effect}
use Rattle.cilk_machine_plan.specs.eval.declared.effect.Effect.TheVariants.{Writes, Answers, Enters, Gives, Starts, Prints, TurnsLock, Marks}
use Rattle.cilk_machine_plan.specs.effects.Effects.{index_of, awaited, effect_in}
use Rattle.cilk_machine_plan.specs.agree.Locks.{LockTurn, lock_turned, refused, blocked, lock_turn_among}
use Rattle.cilk_machine_plan.specs.frame.declared.trap_kind.TrapKind.{TrapKind}
use Rattle.cilk_machine_plan.specs.frame.declared.trap_kind.TrapKind.TheVariants as kind
use Rattle.cilk_machine_plan.specs.declared.plan.Plan.{Plan}
use Rattle.cilk_machine_plan.specs.declared.plan.Plan.TheVariants as plan
use Rattle.cilk_machine_plan.specs.Made.{traps, if_room, takes_by, next_of, target_of_node, answered_at, answered, is_function_body, given, lock_turned_to}
use Rattle.cilk_machine_plan.specs.Made.{by_effect, is_sync, is_spawn, leaves, acted, aborted, taken_by}
use Rattle.cilk_machine_plan.specs.StepInput.{StepInput, id_of, cells_by, cells_in, holds_lock, is_outer}
use Rattle.cilk_machine_step.specs.Scenes.{is_wait, takes_nothing, is_blocked, wants_held_lock}

if-goes : (b : Bool) (x y : Plan) → is_wait x ≡ false → is_wait y ≡ false → is_wait (if b then x else y) ≡ false
if-goes true x y h k = h
if-goes false x y h k = k

takes-goes : (n : ℕ) (r : Result ℤ Trap) (made : ℤ → Plan) → ((z : ℤ) → is_wait (made z) ≡ false) → is_wait (takes_by n r made) ≡ false
takes-goes n (Ok z) made h = h z
takes-goes n (Err trap) made h = refl

room-goes : (b : Bool) (why : TrapKind) (n : ℕ) (made : Plan) → is_wait made ≡ false → is_wait (if_room b why n made) ≡ false
room-goes true why n made h = h
room-goes false why n made h = refl

at-goes : (g : StepInput) (n : ℕ) (z : ℤ) (index : ℕ) (o : Option Target) → is_wait (answered_at g n z index o) ≡ false
at-goes g n z index None = refl
at-goes g n z index (Some target) =
    takes-goes n (combined target.op (slot_cell (cells_by g (left g.frame)) target.place.slot index) z)
    (λ y. plan.Answer n (record { slot = target.place.slot; index = index }) y) (λ y. refl)

answered-goes : (g : StepInput) (n : ℕ) (z : ℤ) (o : Option Await) → is_wait (answered g n z o) ≡ false
answered-goes g n z None = refl
answered-goes g n z (Some w) = at-goes g n z w.index (target_of_node (node_of g.program w.n))

given-goes : (g : StepInput) (n : ℕ) (node : Node) (z : ℤ) → is_wait (given g n node z) ≡ false
given-goes g n node z =
    if-goes (is_outer g) (plan.Return n z)
    (if is_function_body (body_of g.program node.body) then answered g n z (top_of g.frame).awaits else plan.Leave n) refl
    (if-goes (is_function_body (body_of g.program node.body)) (answered g n z (top_of g.frame).awaits) (plan.Leave n)
    (answered-goes g n z (top_of g.frame).awaits) refl)

lock-turned-waits : (n to lock : ℕ) (lock_turn : LockTurn) → is_wait (lock_turned_to n to lock lock_turn) ≡ is_blocked lock_turn
lock-turned-waits n to lock (lock_turned now) = refl
lock-turned-waits n to lock refused = refl
lock-turned-waits n to lock blocked = refl

-- an instance that was aborted never waits for a lock
pub aborted-goes : (g : StepInput) → is_wait (aborted g) ≡ false
aborted-goes g = if-goes (has_live_child g.nodes (id_of g)) plan.Park plan.End refl refl

-- a delivery waits where nothing takes it
pub taken-waits : (g : StepInput) (child : ℕ) (z : ℤ) (taken : Receiver) → is_wait (taken_by g child z taken) ≡ takes_nothing taken
taken-waits g child z receiver.TheVariants.Nothing = refl
taken-waits g child z (receiver.TheVariants.Place op slot index n) =
    takes-goes n (combined op (slot_cell (cells_in g) slot index) z) (λ y. plan.Take child n (record { slot = slot; index = index }) y) (λ y. refl)
taken-waits g child z (receiver.TheVariants.Call n others) = refl

-- whether a step waits that has this effect
abbrev is_stopped : StepInput → Result Effect Trap → Bool
is_stopped g (Err trap) = false
is_stopped g (Ok (Writes reached z)) = false
is_stopped g (Ok (Answers answer)) = false
is_stopped g (Ok (Enters awaits callee zs)) = false
is_stopped g (Ok (Gives z)) = false
is_stopped g (Ok (Starts taken callee zs)) = false
is_stopped g (Ok (Prints bytes)) = false
is_stopped g (Ok (TurnsLock what lock)) = is_blocked (lock_turn_among g.locks (id_of g) what lock)
is_stopped g (Ok Marks) = false

effect-waits : (g : StepInput) (n : ℕ) (node : Node) (r : Result Effect Trap) → is_wait (by_effect g n node r) ≡ is_stopped g r
effect-waits g n node (Err trap) = refl
effect-waits g n node (Ok (Writes reached z)) = refl
effect-waits g n node (Ok (Answers answer)) = refl
effect-waits g n node (Ok (Enters awaits callee zs)) = room-goes _ kind.Depth n (plan.Call n awaits callee zs (next_of node (pos 1))) refl
effect-waits g n node (Ok (Gives z)) = given-goes g n node z
effect-waits g n node (Ok (Starts taken callee zs)) = room-goes _ kind.Instances n (plan.Spawn n taken callee zs (next_of node (pos 1))) refl
effect-waits g n node (Ok (Prints bytes)) = room-goes _ kind.Output n (plan.Print n bytes (next_of node (pos 1))) refl
effect-waits g n node (Ok (TurnsLock what lock)) = lock-turned-waits n (next_of node (pos 1)) lock (lock_turn_among g.locks (id_of g) what lock)
effect-waits g n node (Ok Marks) = refl

then-goes : {A : Type 0} (g : StepInput) (r : Result A Trap) (f : A → Result Effect Trap) → ((a : A) → is_stopped g (f a) ≡ false)
    → is_stopped g (r >>= f) ≡ false
then-goes g (Ok a) f h = h a
then-goes g (Err trap) f h = refl

started-goes : (g : StepInput) (cells : Cells) (n : ℕ) (taker : Taker) (callee : ℕ) (codes : List (Term Slot))
    → is_stopped g (effect_in cells n (Spawn taker callee codes)) ≡ false
started-goes g cells n Nothing callee codes =
    then-goes g (values_of (environment cells) codes) (λ zs. Ok (Starts receiver.TheVariants.Nothing callee zs)) (λ zs. refl)
started-goes g cells n (Into target) callee codes =
    then-goes g (index_of cells target.place)
    (λ k. values_of (environment cells) codes >>= λ zs. Ok (Starts (receiver.TheVariants.Place target.op target.place.slot k n) callee zs))
    (λ k. then-goes g (values_of (environment cells) codes)
    (λ zs. Ok (Starts (receiver.TheVariants.Place target.op target.place.slot k n) callee zs)) (λ zs. refl))
started-goes g cells n (Through inlet others) callee codes =
    then-goes g (values_of (environment cells) codes)
    (λ zs. values_of (environment cells) others >>= λ ys. Ok (Starts (receiver.TheVariants.Call n ys) callee zs))
    (λ zs. then-goes g (values_of (environment cells) others) (λ ys. Ok (Starts (receiver.TheVariants.Call n ys) callee zs)) (λ ys. refl))

-- the effect of a call of a lock alone
action-waits : (g : StepInput) (cells : Cells) (n : ℕ) (act : Action) → is_stopped g (effect_in cells n act) ≡ wants_held_lock g act
action-waits g cells n (Assign target code) =
    then-goes g (index_of cells target.place)
    (λ k. value_of (environment cells) code >>= λ z. combined target.op (slot_cell cells target.place.slot k) z
    >>= λ y. Ok (Writes (record { slot = target.place.slot; index = k }) y))
    (λ k. then-goes g (value_of (environment cells) code)
    (λ z. combined target.op (slot_cell cells target.place.slot k) z >>= λ y. Ok (Writes (record { slot = target.place.slot; index = k }) y))
    (λ z. then-goes g (combined target.op (slot_cell cells target.place.slot k) z)
    (λ y. Ok (Writes (record { slot = target.place.slot; index = k }) y)) (λ y. refl)))
action-waits g cells n (Call target callee codes) =
    then-goes g (awaited cells n target) (λ w. values_of (environment cells) codes >>= λ zs. Ok (Enters w callee zs))
    (λ w. then-goes g (values_of (environment cells) codes) (λ zs. Ok (Enters w callee zs)) (λ zs. refl))
action-waits g cells n (Spawn taker callee codes) = started-goes g cells n taker callee codes
action-waits g cells n (Print format codes) = then-goes g (values_of (environment cells) codes) (λ zs. Ok (Prints (printed format zs))) (λ zs. refl)
action-waits g cells n (Locking what lock) = refl
action-waits g cells n Null = refl
action-waits g cells n Break = refl
action-waits g cells n Continue = refl
action-waits g cells n (Test code) = then-goes g (value_of (environment cells) code) (λ z. Ok (Answers z)) (λ z. refl)
action-waits g cells n Sync = refl
action-waits g cells n Abort = refl
action-waits g cells n (Return code) = then-goes g (value_of (environment cells) code) (λ z. Ok (Gives z)) (λ z. refl)
action-waits g cells n ReturnNothing = refl
action-waits g cells n Close = refl

-- no thread ends with a call of a lock, and it waits for no child
first-waits : (g : StepInput) (act : Action) (inner holds outer waits : Bool) (n : ℕ) (p : Plan) → is_wait p ≡ wants_held_lock g act
    → is_wait (if (is_sync act || (is_spawn act || (leaves act && inner))) && holds then traps kind.HeldLock n
    else (if (outer && (is_sync act || leaves act)) && waits then plan.Park else p)) ≡ wants_held_lock g act
first-waits g (Assign target code) inner holds outer waits n p h = if-goes _ plan.Park p refl h
first-waits g (Call target callee codes) inner holds outer waits n p h = if-goes _ plan.Park p refl h
first-waits g (Spawn taker callee codes) inner true outer waits n p h = refl
first-waits g (Spawn taker callee codes) inner false outer waits n p h = if-goes _ plan.Park p refl h
first-waits g (Print format codes) inner holds outer waits n p h = if-goes _ plan.Park p refl h
first-waits g (Locking what lock) inner holds true waits n p h = h
first-waits g (Locking what lock) inner holds false waits n p h = h
first-waits g Null inner holds outer waits n p h = if-goes _ plan.Park p refl h
first-waits g Break inner holds outer waits n p h = if-goes _ plan.Park p refl h
first-waits g Continue inner holds outer waits n p h = if-goes _ plan.Park p refl h
first-waits g (Test code) inner holds outer waits n p h = if-goes _ plan.Park p refl h
first-waits g Sync inner true outer waits n p h = refl
first-waits g Sync inner false outer waits n p h = if-goes _ plan.Park p refl h
first-waits g Abort inner holds outer waits n p h = if-goes _ plan.Park p refl h
first-waits g (Return code) inner holds outer waits n p h =
    if-goes (inner && holds) (traps kind.HeldLock n) (if (outer && true) && waits then plan.Park else p) refl (if-goes _ plan.Park p refl h)
first-waits g ReturnNothing inner holds outer waits n p h =
    if-goes (inner && holds) (traps kind.HeldLock n) (if (outer && true) && waits then plan.Park else p) refl (if-goes _ plan.Park p refl h)
first-waits g Close inner holds outer waits n p h =
    if-goes (inner && holds) (traps kind.HeldLock n) (if (outer && true) && waits then plan.Park else p) refl (if-goes _ plan.Park p refl h)

pub acted-waits : (g : StepInput) (n : ℕ) (node : Node) → is_wait (acted g n node) ≡ wants_held_lock g node.action
acted-waits g n node =
    first-waits g node.action (is_outer g || not (is_function_body (body_of g.program node.body))) (holds_lock g) (is_outer g)
    (not (is_synched g.nodes (id_of g))) n (by_effect g n node (effect_in (cells_in g) n node.action))
    (effect-waits g n node (effect_in (cells_in g) n node.action) ∙ action-waits g (cells_in g) n node.action)
