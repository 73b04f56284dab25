-- What keeps agreement.
use Rattle.std.specs.Prelude.{◌≡◌, ◌<◌, ◌+◌, ℕ, ℤ, Bool, true, false, not, ◌&&◌, ◌||◌, nat_eq, List, [], ◌∷◌, ◌++◌, length, map, Option, Some, None}
use Rattle.std.specs.Prelude.{replicate, slice_set, if◌then◌else◌}
use Rattle.cilk_laws_model.specs.syntax.Tree.{Program}
use Rattle.cilk_laws_model.specs.labelled.Bodies.{label}
use Rattle.cilk_laws_model.specs.model.Path.{Path, child_path}
use Rattle.cilk_laws_model.specs.model.Values.{initial_values}
use Rattle.cilk_laws_model.specs.model.Instance as model
use Rattle.cilk_laws_model.specs.model.Instance.{Instance}
use Rattle.cilk_laws_model.specs.model.State.{State, changed, is_empty}
use Rattle.cilk_laws_model.specs.model.Change.{deliveries, with_deliveries, after_return, after_abort}
use Rattle.cilk_laws_model.specs.model.Event.{Event}
use Rattle.cilk_laws_model.specs.model.Pick.{ends}
use Rattle.cilk_laws_model.specs.model.Hands.{IsWorker, no_place, hand_of, with_hand, popped_by, stolen_by, pushed_by}
use Rattle.cilk_laws_model.specs.model.Scheduler as sched
use Rattle.cilk_laws_model.specs.model.Run.{Standing, opening, stepped}
use Rattle.cilk_laws_model.specs.Hands.{EachInItsPlace}
use Rattle.cilk_sched.specs.nodes.Slots.{flat}
use Rattle.cilk_sched.specs.frame.Frames.{Frame}
use Rattle.cilk_sched.specs.frame.Stands.{StandsFor}
use Rattle.cilk_spawn.specs.declared.fate.Fate.{Fate}
use Rattle.cilk_spawn.specs.declared.fate.Fate.TheVariants.{Returned, Aborted}
use Rattle.cilk_spawn.specs.frame.declared.receiver.Receiver.{Receiver}
use Rattle.cilk_spawn.specs.Nodes.{Node, AreFrom, node_at, is_live, lives, with_fate, has_live_child, root_alone, new_child, with_child, with_parked}
use Rattle.cilk_spawn.specs.Nodes.{takes_value, delivered, ended, marked_below, descends, path_at}
use Rattle.cilk_machine_agree.specs.Outside as outside
use Rattle.cilk_machine_agree.specs.declared.lock.Lock.{Lock}
use Rattle.cilk_machine_agree.specs.declared.lock.Lock.TheVariants.{Unset, Free, Held}
use Rattle.cilk_machine_agree.specs.Outside.{Outside, SameOutside}
use Rattle.cilk_machine_agree.specs.Alike.{NodeStandsFor, SameLinks, procedure_in}
use Rattle.cilk_machine_agree.specs.Agrees.{MachineParts, Agrees, instead, read_off}
use Rattle.cilk_machine_agree.specs.Marks.{marked_if, marked_from}

-- before any choice of n workers, where the root runs body b in this frame
abbrev pub opening_machine : Program → ℕ → ℕ → Frame → MachineParts
opening_machine p b n f = record {
  outside = record {
    cells = flat (initial_values (label p).globals);
    locks = replicate (length (label p).locks) Unset;
    output = [];
    outcome = outside.running;
  };
  nodes = root_alone b;
  places = with_hand (replicate n no_place) 1 (Some f);
}

-- another fate is told of an instance that lives as it did
abbrev pub FatesAgree : Type 0
FatesAgree = (p : Program) (m : MachineParts) (who : ℕ → Instance) (at : Standing) → Agrees p m who at → (k : ℕ) (fate : Fate) → k < length m.nodes
    → lives fate ≡ is_live (node_at m.nodes k) → Agrees p (record m { nodes = with_fate m.nodes k fate }) who at

abbrev pub OpeningAgrees : Type 0
OpeningAgrees = (p : Program) (b n : ℕ) (f : Frame) → f.id ≡ 0 → StandsFor (label p) f (model.started (label p) b [])
    → Agrees p (opening_machine p b n f) (λ i. model.started (label p) b []) (opening (label p) b n)

-- the instances may be read off the standing
abbrev pub NothingIsHidden : Type 0
NothingIsHidden = (p : Program) (m : MachineParts) (who : ℕ → Instance) (at : Standing) → Agrees p m who at → Agrees p m (read_off p m at) at

-- worker w pops, or steals from v
abbrev pub PopsAgree : Type 0
PopsAgree = (p : Program) (m : MachineParts) (who : ℕ → Instance) (at : Standing) → Agrees p m who at → (w : ℕ)
    → Agrees p (record m { places = popped_by m.places w }) who (record at { scheduler = sched.popped at.scheduler w })

abbrev pub StealsAgree : Type 0
StealsAgree = (p : Program) (m : MachineParts) (who : ℕ → Instance) (at : Standing) → Agrees p m who at → (w v : ℕ)
    → Agrees p (record m { places = stolen_by m.places w v }) who (record at { scheduler = sched.stolen at.scheduler w v })

-- a worker has in its hand this frame
pub record InHand : Type 0 where
  pub program : Program
  pub machine : MachineParts
  pub who : ℕ → Instance
  pub at : Standing
  pub worker : ℕ
  pub frame : Frame
  pub agrees : Agrees program machine who at
  pub placed : EachInItsPlace at
  pub is_worker : IsWorker machine.places worker
  pub hand : hand_of machine.places worker ≡ Some frame

abbrev pub path_of : InHand → Path
path_of t = path_at t.machine.nodes t.frame.id

abbrev pub node_of : InHand → Node
node_of t = node_at t.machine.nodes t.frame.id

abbrev pub instance_of : InHand → Instance
instance_of t = t.who t.frame.id

-- all that an action has to show of the instance in the hand: frame, node and instance become f, n and a, and what is outside becomes o
pub record Local (t : InHand) (f : Frame) (n : Node) (a : Instance) (o : Outside) (s : State) : Type 0 where
  pub own : f.id ≡ t.frame.id
  pub stands : StandsFor (label t.program) f a
  pub links : SameLinks (node_of t) n
  pub parked : n.parked ≡ (node_of t).parked
  pub from : AreFrom t.machine.nodes t.frame.id n.waiting
  pub tells : NodeStandsFor (label t.program) (path_at t.machine.nodes) (procedure_in t.machine.nodes) n a
  pub outside : SameOutside (label t.program) (path_at t.machine.nodes) (length t.machine.nodes) o s
  pub instances : s.instances ≡ changed (path_of t) (λ _. a) t.at.state.instances

-- frame, node, instance and what is outside become these
abbrev pub Becomes : InHand → Frame → Node → Instance → Outside → State → Type 0
Becomes t f n a o s =
    Agrees t.program (record t.machine { outside = o; nodes = slice_set t.machine.nodes t.frame.id n; places = with_hand t.machine.places t.worker (Some f) })
    (instead t.who t.frame.id a) (record t.at { state = s })

-- the same, where the node stays as it is
abbrev pub Goes : InHand → Frame → Instance → Outside → State → Type 0
Goes t f a o s =
    Agrees t.program (record t.machine { outside = o; places = with_hand t.machine.places t.worker (Some f) }) (instead t.who t.frame.id a)
    (record t.at { state = s })

-- whatever it does by itself: an assignment, a call, a return from a call or an inlet, a delivery that it takes, a lock, a line of output
abbrev pub LocalAgrees : Type 0
LocalAgrees = (t : InHand) (f : Frame) (n : Node) (a : Instance) (o : Outside) (s : State) → Local t f n a o s → Becomes t f n a o s

-- it waits for its children
abbrev pub WaitingAgrees : Type 0
WaitingAgrees = (t : InHand)
    → Agrees t.program (record t.machine {
      nodes = with_parked t.machine.nodes t.frame.id (Some t.frame);
      places = with_hand t.machine.places t.worker None;
    }) t.who
    (record t.at { scheduler = sched.parked_from t.at.scheduler t.worker (path_of t) })

-- all that a spawn has to show: the parent becomes a, behind frame f, and g is the frame of the child c
pub record Birth (t : InHand) (f g : Frame) (receiver : Receiver) (callee : ℕ) (a c : Instance) (s : State) : Type 0 where
  pub own : f.id ≡ t.frame.id
  pub stands : StandsFor (label t.program) f a
  pub tells : NodeStandsFor (label t.program) (path_at t.machine.nodes) (procedure_in t.machine.nodes)
      (record (node_of t) { children = (node_of t).children + 1 }) a
  pub child_own : g.id ≡ length t.machine.nodes
  pub child_stands : StandsFor (label t.program) g c
  -- whatever the paths are, and wherever the parent's procedure is told
  pub child_tells : (up : ℕ → Path) (procedures : ℕ → ℕ) → procedures t.frame.id ≡ (node_of t).procedure
      → NodeStandsFor (label t.program) up procedures (new_child t.machine.nodes t.frame.id callee receiver) c
  pub outside : SameOutside (label t.program) (path_at t.machine.nodes) (length t.machine.nodes) t.machine.outside s
  pub instances : s.instances
      ≡ changed (path_of t) (λ _. a) t.at.state.instances ++ record { path = child_path (path_of t) ((node_of t).children + 1); instance = c } ∷ []

-- the parent goes to the bottom of the deque, and the child to the hand
abbrev pub after_birth : InHand → Frame → Frame → Receiver → ℕ → MachineParts
after_birth t f g receiver callee = record t.machine {
  nodes = with_child t.machine.nodes t.frame.id callee receiver;
  places = pushed_by t.machine.places t.worker f g;
}

abbrev pub SpawnsAgree : Type 0
SpawnsAgree = (t : InHand) (f g : Frame) (receiver : Receiver) (callee : ℕ) (a c : Instance) (s : State) → Birth t f g receiver callee a c s
    → Agrees t.program (after_birth t f g receiver callee) (instead (instead t.who t.frame.id a) (length t.machine.nodes) c)
    (record { state = s; scheduler = sched.pushed t.at.scheduler t.worker (path_of t) (child_path (path_of t) ((node_of t).children + 1)) })

-- an `abort` in k marks its live descendants
abbrev pub MarksAgree : Type 0
MarksAgree = (p : Program) (m : MachineParts) (who : ℕ → Instance) (at : Standing) → Agrees p m who at → (k : ℕ) → k < length m.nodes
    → Agrees p (record m { nodes = marked_below m.nodes k }) (λ i. marked_if (descends m.nodes k i) (who i))
    (record at { state = marked_from at.state (path_at m.nodes k) })

-- the value of k waits for its parent, if anything takes it; an aborted child delivers nothing
abbrev pub sent : List Node → ℕ → ℤ → List Node
sent ns k z = if takes_value (node_at ns k).receiver && not (node_at ns k).aborted then delivered ns k z else ns

-- no child of r lives, or it is not aborted and a delivery waits
abbrev pub can_go_on : List Node → ℕ → Bool
can_go_on ns r = not (has_live_child ns r) || (not (node_at ns r).aborted && not (is_empty (node_at ns r).waiting))

-- r comes to w's hand where it is parked and can go on
abbrev pub woken_by : MachineParts → ℕ → ℕ → Option Frame → Bool → MachineParts
woken_by m w r None can = m
woken_by m w r (Some g) true = record m { nodes = with_parked m.nodes r None; places = with_hand m.places w (Some g) }
woken_by m w r (Some g) false = m

abbrev pub woken : MachineParts → ℕ → Option ℕ → MachineParts
woken m w None = m
woken m w (Some r) = woken_by m w r (node_at m.nodes r).parked (can_go_on m.nodes r)

-- the frame in the hand is spent, and its instance is no more
abbrev pub without_frame : InHand → Outside → List Node → Fate → MachineParts
without_frame t o ns fate = record t.machine { outside = o; nodes = ended ns t.frame.id fate; places = with_hand t.machine.places t.worker None }

-- the root's value is the program's
abbrev pub outside_after : InHand → ℤ → Option ℕ → Outside
outside_after t z None = record t.machine.outside { outcome = outside.finished z }
outside_after t z (Some r) = t.machine.outside

-- it returns z, and its parent may go on
abbrev pub after_returning : InHand → ℤ → MachineParts
after_returning t z =
    woken (without_frame t (outside_after t z (node_of t).parent) (sent t.machine.nodes t.frame.id z) Returned) t.worker (node_of t).parent

abbrev pub who_after : InHand → ℤ → Option ℕ → ℕ → Instance
who_after t z None = t.who
who_after t z (Some r) = instead t.who r (with_deliveries (deliveries (path_of t) z (instance_of t).receiver (instance_of t).aborted) (t.who r))

abbrev pub ReturnsAgree : Type 0
ReturnsAgree = (t : InHand) (z : ℤ) (did : Event) → has_live_child t.machine.nodes t.frame.id ≡ false
    → Agrees t.program (after_returning t z) (who_after t z (node_of t).parent)
    (stepped t.at t.worker (path_of t) (ends (after_return t.at.state (path_of t) (instance_of t) z) did))

-- an aborted instance ends, and its locks are free
abbrev pub released : ℕ → Lock → Lock
released k Unset = Unset
released k Free = Free
released k (Held i) = if nat_eq i k then Free else Held i

abbrev pub freed : InHand → Outside
freed t = record t.machine.outside { locks = map (released t.frame.id) t.machine.outside.locks }

abbrev pub EndsAgree : Type 0
EndsAgree = (t : InHand) (choice : ℕ) (did : Event) → has_live_child t.machine.nodes t.frame.id ≡ false
    → Agrees t.program (woken (without_frame t (freed t) t.machine.nodes (Aborted choice)) t.worker (node_of t).parent) t.who
    (stepped t.at t.worker (path_of t) (ends (after_abort t.at.state (path_of t)) did))
