-- What an action shows of the one instance.
use Rattle.std.proofs.Common.{pos, ◌≡◌, ◌+◌, ℕ, ℤ, true, false, ◌++◌, length, Some, refl, sym, ap, ◌∙◌, subst, slice_set}
use Rattle.cilk_sched.specs.nodes.declared.area.Area.{Area}
use Rattle.cilk_sched.specs.nodes.declared.area.Area.TheVariants.{Own, Outer, Global}
use Rattle.cilk_sched.specs.nodes.declared.slot.Slot.{Slot}
use Rattle.cilk_laws_model.specs.syntax.Tree.{Program}
use Rattle.cilk_laws_model.specs.scopes.declared.owner.Owner.{Owner}
use Rattle.cilk_laws_model.specs.scopes.declared.owner.Owner.TheVariants.{Function, Procedure, Inlet}
use Rattle.cilk_laws_model.specs.labelled.Labelled.{Labelled}
use Rattle.cilk_laws_model.specs.labelled.Bodies.{label, is_procedure}
use Rattle.cilk_laws_model.specs.model.Values.{Cell}
use Rattle.cilk_laws_model.specs.model.Instance.{Instance, body_at}
use Rattle.cilk_laws_model.specs.model.State.{State, Instances, changed}
use Rattle.cilk_laws_model.specs.model.Change.{is_function, put, gone_on, outer_with, globals_with, resumed_to, with_instance, with_put}
use Rattle.cilk_laws_model.specs.model.Hands.{with_hand}
use Rattle.cilk_sched.specs.nodes.Slots.{is_inlet, slot_of}
use Rattle.cilk_sched.specs.frame.Frames.{Frame, gone_to, left}
use Rattle.cilk_sched.specs.frame.Cells.{SameCell, put_in, frame_put, globals_put}
use Rattle.cilk_sched.specs.frame.Stands.{StandsFor, bodies_of, lowest_of}
use Rattle.cilk_sched.proofs.frame_laws.Puts.{on_lowest-bodies, put-stands, put-globals, put-sizes}
use Rattle.cilk_sched.proofs.frame_laws.Steps.{goes_on-stands, call-stands}
use Rattle.cilk_sched.proofs.frame_laws.Tops.{left-stands}
use Rattle.cilk_spawn.specs.Nodes.{path_at}
use Rattle.cilk_machine_agree.specs.Outside.{Outside, SameOutside, lock_by}
use Rattle.cilk_machine_agree.specs.Alike.{NodeStandsFor, SameDeliveries, Receives, procedure_in, taker_of, lowest_body}
use Rattle.cilk_machine_agree.specs.Agrees.{Agrees, instead}
use Rattle.cilk_machine_agree.specs.Laws.{InHand, path_of, node_of, instance_of, Goes}
use Rattle.cilk_machine_agree.specs.Actions.{IsNext, with_global, GoingAgrees, WritesAgree, CallsAgree, LeavesAgree, AnswersAgree, PrintsAgree}
use Rattle.cilk_machine_agree.specs.Actions.{LocksAgree, TrapsAgree, AbortsAgree}
use Rattle.cilk_machine_agree.proofs.Sets.{links-all, set-same}
use Rattle.cilk_machine_agree.proofs.Alone.{holds, inside}
use Rattle.cilk_machine_agree.proofs.Acts.{local-agrees}
use Rattle.cilk_machine_agree.proofs.Marks.{marks-agree}
use Rattle.cilk_machine_agree.proofs.Ends.{outside-of}
use Rattle.cilk_machine_agree.proofs.Locks.{set_map, set_all}

-- a write leaves the frame's id
pub put-id : (area : Area) (k : ℕ) (z : ℤ) (f : Frame) → (put_in area k z f).id ≡ f.id
put-id Own k z f = refl
put-id Outer k z f = refl
put-id Global k z f = refl

-- a write to any cell that the top activation sees
pub same-put : (program : Labelled) (f : Frame) (i : Instance) (slot : Slot) (index : ℕ) (cell : Cell) (z : ℤ) → StandsFor program f i
    → SameCell program i.top.body slot index cell
    → StandsFor program (frame_put slot index z f) (put cell z i)
same-put program f i slot index cell z s same =
    subst (λ x. StandsFor program (frame_put x index z f) (put cell z i)) (sym same.slot_is)
    (subst (λ n. StandsFor program (frame_put (slot_of program i.top.body cell.place) n z f) (put cell z i)) (sym same.index_is)
    (put-stands program f i cell.place cell.index z s same.there))

-- the lowest body stays
pub put-lowest : (cell : Cell) (z : ℤ) (i : Instance) → lowest_body (put cell z i) ≡ lowest_body i
put-lowest cell z i = ap (lowest_of i.top.body) (on_lowest-bodies (outer_with cell.place cell.index z) i.below)

-- an instance that runs the same procedure and has the same children, deliveries, mark and receiver
pub record Rest (i a : Instance) : Type 0 where
  pub lowest : lowest_body a ≡ lowest_body i
  pub children : a.children ≡ i.children
  pub aborted : a.aborted ≡ i.aborted
  pub waiting : a.waiting ≡ i.waiting
  pub receiver : a.receiver ≡ i.receiver

module _ (t : InHand) where
  abbrev p : Program
  p = t.program

  abbrev i : Instance
  i = instance_of t

  pub told : NodeStandsFor (label p) (path_at t.machine.nodes) (procedure_in t.machine.nodes) (node_of t) i
  told = t.agrees.tells t.frame.id (holds t).live

  rest-told : (a : Instance) → Rest i a → NodeStandsFor (label p) (path_at t.machine.nodes) (procedure_in t.machine.nodes) (node_of t) a
  rest-told a r = record {
    procedure = told.procedure ∙ sym r.lowest;
    children = told.children ∙ sym r.children;
    aborted = told.aborted ∙ sym r.aborted;
    waiting = subst (SameDeliveries (label p) (path_at t.machine.nodes) (node_of t).procedure (node_of t).waiting)
        (sym r.waiting) told.waiting;
    receiver = subst (Receives (label p)
        (taker_of (procedure_in t.machine.nodes) (node_of t).parent) (node_of t).receiver) (sym r.receiver) told.receiver;
  }

  -- whatever leaves the node
  pub acts : (f : Frame) (a : Instance) (o : Outside) (s : State) → f.id ≡ t.frame.id → StandsFor (label p) f a → Rest i a
      → SameOutside (label p) (path_at t.machine.nodes) (length t.machine.nodes) o s → s.instances ≡ changed (path_of t) (λ _. a) t.at.state.instances
      → Goes t f a o s
  acts f a o s own stands rest same is =
      subst (λ ns. Agrees p (record t.machine { outside = o; nodes = ns; places = with_hand t.machine.places t.worker (Some f) }) (instead t.who t.frame.id a)
      (record t.at { state = s }))
      (set-same t.machine.nodes t.frame.id)
      (local-agrees t f (node_of t) a o s (record {
        own = own;
        stands = stands;
        links = links-all (node_of t);
        parked = refl;
        from = t.agrees.tree.sent t.frame.id;
        tells = rest-told a rest;
        outside = same;
        instances = is;
      }))

  -- the same outside, whatever the instances are
  pub outside-same : (es : Instances)
      → SameOutside (label p) (path_at t.machine.nodes) (length t.machine.nodes) t.machine.outside (record t.at.state { instances = es })
  outside-same es = outside-of (label p) (path_at t.machine.nodes) (length t.machine.nodes) t.machine.outside t.at.state es t.agrees.outside

  -- and where a cell that body b sees takes z
  pub outside-put : (b : ℕ) (slot : Slot) (index : ℕ) (cell : Cell) (z : ℤ) (es : Instances) → SameCell (label p) b slot index cell
      → SameOutside (label p) (path_at t.machine.nodes) (length t.machine.nodes) (with_global t slot index z)
      (record t.at.state { instances = es; globals = globals_with cell.place cell.index z t.at.state.globals })
  outside-put b slot index cell z es same =
      let o = t.agrees.outside in
      record {
        cells =
            (λ j. globals_put (same.slot_is j) (same.index_is j) z (o.cells j))
            ∙ put-globals (label p) b t.at.state.globals cell.place cell.index z same.there o.sizes;
        sizes = put-sizes t.at.state.globals cell.place cell.index z ∙ o.sizes;
        locks = o.locks;
        holders = o.holders;
        output = o.output;
        outcome = o.outcome;
        trapper = o.trapper;
      }

  -- the frame that goes on stands for the instance past its head
  pub gone : (answer : ℤ) (to : ℕ) → IsNext t answer to → StandsFor (label p) (gone_to to t.frame) (gone_on answer i)
  gone answer to next = goes_on-stands (label p) t.frame i answer to (holds t).stands next

pub going-agrees : GoingAgrees
going-agrees t answer to next =
    acts t _ _ _ _ refl (gone t answer to next) (record { lowest = refl; children = refl; aborted = refl; waiting = refl; receiver = refl })
    (outside-same t _) refl

pub writes-agree : WritesAgree
writes-agree t slot index cell z to same next =
    let i = gone_on (pos 1) (instance_of t) in
    acts t _ _ _ _ (put-id slot.area (slot.offset + index) z (gone_to to t.frame))
    (same-put (label t.program) (gone_to to t.frame) i slot index cell z (gone t (pos 1) to next) same)
    (record { lowest = put-lowest cell z i; children = refl; aborted = refl; waiting = refl; receiver = refl })
    (outside-put t (instance_of t).top.body slot index cell z _ same) refl

-- a C function's body is neither a procedure's nor an inlet's
by_owner : (o : Owner) → is_function o ≡ true → (is_procedure o ≡ false) × (is_inlet o ≡ false)
by_owner (Function returns) h = (refl, refl)
by_owner (Procedure returns) h = cc
by_owner Inlet h = cc

pub calls-agree : CallsAgree
calls-agree t callee to arguments w r next takes awaits function =
    acts t _ _ _ _ refl
    (call-stands t.program (gone_to to t.frame) (gone_on (pos 1) (instance_of t)) callee arguments w r (gone t (pos 1) to next) takes awaits
    (by_owner (body_at (label t.program) callee).owner function).0
    (λ inlet. let clash : true ≡ false = sym inlet ∙ (by_owner (body_at (label t.program) callee).owner function).1 in cc))
    (record { lowest = refl; children = refl; aborted = refl; waiting = refl; receiver = refl }) (outside-same t _) refl

pub leaves-agree : LeavesAgree
leaves-agree t caller below is =
    let i = instance_of t in
    subst (λ ms. Goes t (left t.frame) (resumed_to i ms) t.machine.outside (with_instance t.at.state (path_of t) (resumed_to i ms))) (sym is)
    (acts t _ _ _ _ refl (left-stands (label t.program) t.frame i caller below (holds t).stands is)
    (record { lowest = ap (λ ms. lowest_of i.top.body (bodies_of ms)) (sym is); children = refl; aborted = refl; waiting = refl; receiver = refl })
    (outside-same t _) refl)

pub answers-agree : AnswersAgree
answers-agree t caller below slot index cell z is same =
    let i = instance_of t in
    let back : Instance = record i { top = caller; below = below } in
    subst (λ ms. Goes t (frame_put slot index z (left t.frame)) (put cell z (resumed_to i ms)) (with_global t slot index z)
    (with_put t.at.state (path_of t) (resumed_to i ms) cell z)) (sym is)
    (acts t _ _ _ _ (put-id slot.area (slot.offset + index) z (left t.frame))
    (same-put (label t.program) (left t.frame) back slot index cell z (left-stands (label t.program) t.frame i caller below (holds t).stands is) same)
    (record {
      lowest = put-lowest cell z back ∙ ap (λ ms. lowest_of i.top.body (bodies_of ms)) (sym is);
      children = refl;
      aborted = refl;
      waiting = refl;
      receiver = refl;
    }) (outside-put t caller.body slot index cell z _ same) refl)

pub prints-agree : PrintsAgree
prints-agree t bytes to next =
    let o = t.agrees.outside in
    acts t _ _ _ _ refl (gone t (pos 1) to next) (record { lowest = refl; children = refl; aborted = refl; waiting = refl; receiver = refl })
    (record {
      cells = o.cells;
      sizes = o.sizes;
      locks = o.locks;
      holders = o.holders;
      output = ap (λ printed. printed ++ bytes) o.output;
      outcome = o.outcome;
      trapper = o.trapper;
    }) refl

pub locks-agree : LocksAgree
locks-agree t l to now next within =
    let o = t.agrees.outside in
    let up = path_at t.machine.nodes in
    acts t _ _ _ _ refl (gone t (pos 1) to next) (record { lowest = refl; children = refl; aborted = refl; waiting = refl; receiver = refl })
    (record {
      cells = o.cells;
      sizes = o.sizes;
      locks = ap (λ ls. slice_set ls l (lock_by up now)) o.locks ∙ set_map (lock_by up) t.machine.outside.locks l now;
      holders = set_all (length t.machine.nodes) t.machine.outside.locks l now within o.holders;
      output = o.output;
      outcome = o.outcome;
      trapper = o.trapper;
    }) refl

pub traps-agree : TrapsAgree
traps-agree t n kind =
    let a = t.agrees in
    let o = a.outside in
    record {
      tree = a.tree;
      instances = a.instances;
      tells = a.tells;
      places = a.places;
      parked = a.parked;
      held = a.held;
      waits = a.waits;
      outside = record { cells = o.cells; sizes = o.sizes; locks = o.locks; holders = o.holders; output = o.output; outcome = refl; trapper = inside t };
    }

pub aborts-agree : AbortsAgree
aborts-agree t to next = marks-agree t.program _ _ _ (going-agrees t (pos 1) to next) t.frame.id (inside t)
