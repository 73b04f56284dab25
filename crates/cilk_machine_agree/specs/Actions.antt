-- The actions that an instance takes by itself, a spawn and an `abort`: each keeps agreement.
use Rattle.std.specs.Prelude.{pos, ◌≡◌, ◌+◌, ℕ, ℤ, true, false, List, ◌∷◌, ◌++◌, drop, length, Option, Some, None, slice_set}
use Rattle.cilk_sched.specs.nodes.declared.slot.Slot.{Slot}
use Rattle.cilk_laws_model.specs.labelled.Bodies.{label}
use Rattle.cilk_laws_model.specs.labelled.Items.{opened, next}
use Rattle.cilk_laws_model.specs.model.Path.{child_path}
use Rattle.cilk_laws_model.specs.model.Values.{Cell, Reached}
use Rattle.cilk_laws_model.specs.model.Instance as model
use Rattle.cilk_laws_model.specs.model.Instance.{Activation, Instance, body_at, entered}
use Rattle.cilk_laws_model.specs.model.State.{TrapKind}
use Rattle.cilk_laws_model.specs.scopes.declared.owner.Owner.TheVariants.{Inlet}
use Rattle.cilk_laws_model.specs.model.Change.{is_function, put, above, resumed, gone_on, stopped, after_write, after_going, after_call, after_leaving}
use Rattle.cilk_laws_model.specs.model.Change.{after_answer, after_start, after_print, after_lock, after_marks, after_place, after_inlet}
use Rattle.cilk_laws_model.specs.model.Hands.{with_hand}
use Rattle.cilk_laws_model.specs.model.Scheduler.{pushed}
use Rattle.cilk_sched.specs.nodes.Slots.{is_inlet, procedure_around}
use Rattle.cilk_sched.specs.nodes.Table.{number_of}
use Rattle.cilk_sched.specs.nodes.Bodies.{body_of}
use Rattle.cilk_sched.specs.frame.declared.awaited.Await.{Await}
use Rattle.cilk_sched.specs.frame.Frames as frames
use Rattle.cilk_sched.specs.frame.Frames.{Frame, jumped, with_boundary, gone_to, left}
use Rattle.cilk_sched.specs.frame.Begins.{Takes, first_activation, started}
use Rattle.cilk_sched.specs.frame.Cells.{SameCell, frame_put, globals_put}
use Rattle.cilk_sched.specs.frame.Stands.{AwaitsSame, bodies_of}
use Rattle.cilk_spawn.specs.frame.declared.receiver.Receiver.{Receiver}
use Rattle.cilk_spawn.specs.Nodes.{Node, descends, marked_below, path_at}
use Rattle.cilk_machine_agree.specs.Outside as outside
use Rattle.cilk_machine_agree.specs.declared.lock.Lock.{Lock}
use Rattle.cilk_machine_agree.specs.Outside.{Outside, LockWithin, lock_by}
use Rattle.cilk_machine_agree.specs.Alike.{Receives, lowest_body}
use Rattle.cilk_machine_agree.specs.Agrees.{Agrees, instead}
use Rattle.cilk_machine_agree.specs.Laws.{InHand, path_of, node_of, instance_of, Becomes, Goes, after_birth}
use Rattle.cilk_machine_agree.specs.Marks.{marked_if}

-- where a test has this value, that action comes next
abbrev pub IsNext : InHand → ℤ → ℕ → Type 0
IsNext t answer to = number_of (opened (next answer (instance_of t).top.items)) ≡ Some to

-- the cells of the top level, with z in one of them if the slot lies there
abbrev pub with_global : InHand → Slot → ℕ → ℤ → Outside
with_global t slot index z = record t.machine.outside { cells = globals_put slot index z t.machine.outside.cells }

-- it goes on, and no value is changed
abbrev pub GoingAgrees : Type 0
GoingAgrees = (t : InHand) (answer : ℤ) (to : ℕ) → IsNext t answer to
    → Goes t (gone_to to t.frame) (gone_on answer (instance_of t)) t.machine.outside (after_going t.at.state (path_of t) (instance_of t) answer)

-- it writes any cell that it sees, and goes on
abbrev pub WritesAgree : Type 0
WritesAgree = (t : InHand) (slot : Slot) (index : ℕ) (cell : Cell) (z : ℤ) (to : ℕ)
    → SameCell (label t.program) (instance_of t).top.body slot index cell → IsNext t (pos 1) to
    → Goes t (frame_put slot index z (gone_to to t.frame)) (put cell z (gone_on (pos 1) (instance_of t))) (with_global t slot index z)
    (after_write t.at.state (path_of t) (instance_of t) cell z)

-- it calls a C function, whose activation stands above its own, and itself at what follows
abbrev pub CallsAgree : Type 0
CallsAgree = (t : InHand) (callee to : ℕ) (arguments : List ℤ) (w : Option Await) (r : Option Reached) → IsNext t (pos 1) to
    → Takes (body_of t.program callee) arguments
    → AwaitsSame (label t.program) w r (bodies_of ((instance_of t).top ∷ (instance_of t).below))
    → is_function (body_at (label t.program) callee).owner ≡ true
    → Goes t (frames.entered (first_activation t.program callee arguments w) (gone_to to t.frame))
    (above (entered (label t.program) callee arguments r) (gone_on (pos 1) (instance_of t))) t.machine.outside
    (after_call (label t.program) t.at.state (path_of t) (instance_of t) r callee arguments)

-- a C function whose value nothing awaits is left, or an inlet
abbrev pub LeavesAgree : Type 0
LeavesAgree = (t : InHand) (caller : Activation) (below : List Activation) → (instance_of t).below ≡ caller ∷ below
    → Goes t (left t.frame) (resumed (instance_of t)) t.machine.outside (after_leaving t.at.state (path_of t) (instance_of t))

-- a C function is left, and z comes to the cell that its caller reached
abbrev pub AnswersAgree : Type 0
AnswersAgree = (t : InHand) (caller : Activation) (below : List Activation) (slot : Slot) (index : ℕ) (cell : Cell) (z : ℤ)
    → (instance_of t).below ≡ caller ∷ below
    → SameCell (label t.program) caller.body slot index cell
    → Goes t (frame_put slot index z (left t.frame)) (put cell z (resumed (instance_of t))) (with_global t slot index z)
    (after_answer t.at.state (path_of t) (instance_of t) cell z)

-- the node without its oldest delivery
abbrev pub served : Node → Node
served n = record n { waiting = drop 1 n.waiting }

-- it takes the oldest delivery into any cell that it sees
abbrev pub DeliveriesAgree : Type 0
DeliveriesAgree = (t : InHand) (slot : Slot) (index : ℕ) (cell : Cell) (z : ℤ) (oldest : model.Delivery) (others : List model.Delivery)
    → SameCell (label t.program) (instance_of t).top.body slot index cell → (instance_of t).waiting ≡ oldest ∷ others
    → Becomes t (frame_put slot index z t.frame) (served (node_of t)) (put cell z (record (instance_of t) { waiting = others })) (with_global t slot index z)
    (after_place t.at.state (path_of t) (instance_of t) others cell z)

-- it takes the oldest delivery by an inlet of its own, whose activation stands above
abbrev pub InletsAgree : Type 0
InletsAgree = (t : InHand) (inlet : ℕ) (arguments : List ℤ) (oldest : model.Delivery) (others : List model.Delivery) → Takes (body_of t.program inlet) arguments
    → (body_at (label t.program) inlet).owner ≡ Inlet → lowest_body (instance_of t) ≡ procedure_around (label t.program) inlet
    → (instance_of t).waiting ≡ oldest ∷ others
    → Becomes t (frames.entered (first_activation t.program inlet arguments None) t.frame) (served (node_of t))
    (above (entered (label t.program) inlet arguments None) (record (instance_of t) { waiting = others })) t.machine.outside
    (after_inlet (label t.program) t.at.state (path_of t) (instance_of t) others inlet arguments)

-- it prints
abbrev pub PrintsAgree : Type 0
PrintsAgree = (t : InHand) (bytes : List ℕ) (to : ℕ) → IsNext t (pos 1) to
    → Goes t (gone_to to t.frame) (gone_on (pos 1) (instance_of t)) (record t.machine.outside { output = t.machine.outside.output ++ bytes })
    (after_print t.at.state (path_of t) (instance_of t) bytes)

-- it turns lock l
abbrev pub LocksAgree : Type 0
LocksAgree = (t : InHand) (l to : ℕ) (now : Lock) → IsNext t (pos 1) to → LockWithin (length t.machine.nodes) now
    → Goes t (gone_to to t.frame) (gone_on (pos 1) (instance_of t)) (record t.machine.outside { locks = slice_set t.machine.outside.locks l now })
    (after_lock t.at.state (path_of t) (instance_of t) l (lock_by (path_at t.machine.nodes) now))

-- it is trapped: the outcome alone is changed
abbrev pub TrapsAgree : Type 0
TrapsAgree = (t : InHand) (n : ℕ) (kind : TrapKind)
    → Agrees t.program (record t.machine { outside = record t.machine.outside { outcome = outside.trapped kind t.frame.id n } }) t.who
    (record t.at { state = stopped t.at.state (path_of t) n kind })

-- the frame of a parent that has spawned
abbrev pub past_spawn : ℕ → Frame → Frame
past_spawn n f = with_boundary true (jumped n f)

-- it spawns a child
abbrev pub StartsAgree : Type 0
StartsAgree = (t : InHand) (callee : ℕ) (arguments : List ℤ) (receiver : Receiver) (r : Option model.Receiver) (to : ℕ) → IsNext t (pos 1) to
    → Takes (body_of t.program callee) arguments
    → is_inlet (body_at (label t.program) callee).owner ≡ false
    → Receives (label t.program) (node_of t).procedure receiver r
    → Agrees t.program (after_birth t (past_spawn to t.frame) (started t.program (length t.machine.nodes) callee arguments) receiver callee)
    (instead (instead t.who t.frame.id (record (gone_on (pos 1) (instance_of t)) { spawned = true; children = (instance_of t).children + 1 }))
    (length t.machine.nodes)
    (record (model.started (label t.program) callee arguments) { aborted = (instance_of t).aborted; receiver = r }))
    (record {
      state = after_start (label t.program) t.at.state (path_of t) (instance_of t) r callee arguments;
      scheduler = pushed t.at.scheduler t.worker (path_of t) (child_path (path_of t) ((instance_of t).children + 1));
    })

-- it goes on, and its live descendants are marked
abbrev pub AbortsAgree : Type 0
AbortsAgree = (t : InHand) (to : ℕ) → IsNext t (pos 1) to
    → Agrees t.program (record t.machine {
      nodes = marked_below t.machine.nodes t.frame.id;
      places = with_hand t.machine.places t.worker (Some (gone_to to t.frame));
    })
    (λ i. marked_if (descends t.machine.nodes t.frame.id i) (instead t.who t.frame.id (gone_on (pos 1) (instance_of t)) i))
    (record t.at { state = after_marks t.at.state (path_of t) (instance_of t) })
