-- What a step asks of the standing, and what the machine tells of it.
use Rattle.std.specs.Prelude.{◌≡◌, ◌<◌, ℕ, true, List, [], ◌∷◌, map, length, Some, None, option_map}
use Rattle.std.specs.List.{list_any}
use Rattle.cilk_laws_model.specs.syntax.declared.lock_action.LockAction.{LockAction}
use Rattle.cilk_laws_model.specs.syntax.Tree.{Program}
use Rattle.cilk_laws_model.specs.labelled.Bodies.{label}
use Rattle.cilk_laws_model.specs.model.Instance as model
use Rattle.cilk_laws_model.specs.model.Instance.{Instance}
use Rattle.cilk_laws_model.specs.model.State as state
use Rattle.cilk_laws_model.specs.model.State.{instance_at, store_of}
use Rattle.cilk_laws_model.specs.model.Change as change
use Rattle.cilk_laws_model.specs.model.Hands.{hand_of, deque_of}
use Rattle.cilk_laws_model.specs.model.Scheduler as sched
use Rattle.cilk_laws_model.specs.model.Run.{Standing}
use Rattle.cilk_sched.specs.frame.Reads.{Seen, lent}
use Rattle.cilk_sched.specs.frame.Stands.{StandsFor}
use Rattle.cilk_spawn.specs.declared.delivery.Delivery.{Delivery}
use Rattle.cilk_spawn.specs.Nodes.{node_at, is_live, has_live_child, is_synched, live_ids, path_at}
use Rattle.cilk_machine_agree.specs.declared.lock.Lock.{Lock}
use Rattle.cilk_machine_agree.specs.Outside.{LockWithin}
use Rattle.cilk_machine_agree.specs.Locks.{lock_turned, lock_turn_among, lock_turn_named, is_held_by}
use Rattle.cilk_machine_agree.specs.Alike.{NodeStandsFor, SameDelivery, procedure_in}
use Rattle.cilk_machine_agree.specs.Agrees.{MachineParts, Agrees, name_in}
use Rattle.cilk_machine_agree.specs.Laws.{InHand, path_of, node_of, instance_of}

-- of the instance in the hand
pub record Asked (t : InHand) : Type 0 where
  -- it lives, is parked nowhere, and is the one that stands at its path
  pub live : is_live (node_of t) ≡ true
  pub free : (node_of t).parked ≡ None
  pub there : instance_at t.at.state.instances (path_of t) ≡ Some (instance_of t)
  -- what frame and node tell of it, and that its expressions see the same over the cells that the frame lends
  pub stands : StandsFor (label t.program) t.frame (instance_of t)
  pub told : NodeStandsFor (label t.program) (path_at t.machine.nodes) (procedure_in t.machine.nodes) (node_of t) (instance_of t)
  pub seen : Seen (label t.program) (instance_of t).top.body
      (lent t.frame t.machine.outside.cells (is_synched t.machine.nodes t.frame.id))
      (store_of t.at.state (path_of t) (instance_of t))
  -- whether it has something to wait for
  pub childless : state.has_live_child t.at.state.instances (path_of t) ≡ has_live_child t.machine.nodes t.frame.id
  pub synched : state.is_synched t.at.state (path_of t) (instance_of t) ≡ is_synched t.machine.nodes t.frame.id
  -- whether it holds a lock, and what a lock would become
  pub holds : change.holds_lock t.at.state (path_of t) ≡ list_any (is_held_by t.frame.id) t.machine.outside.locks
  pub lock_turn : (what : LockAction) (l : ℕ) → change.lock_turn_of t.at.state (path_of t) what l
      ≡ lock_turn_named (path_at t.machine.nodes) (lock_turn_among t.machine.outside.locks t.frame.id what l)
  pub lock_turned_within : (what : LockAction) (l : ℕ) (now : Lock) → lock_turn_among t.machine.outside.locks t.frame.id what l ≡ lock_turned now
      → LockWithin (length t.machine.nodes) now
  -- how many live
  pub count : length t.at.state.instances ≡ length (live_ids t.machine.nodes)

abbrev pub AskedOf : Type 0
AskedOf = (t : InHand) → Asked t

-- the delivery that has waited longest, where the node has d in front of others
pub record Oldest (t : InHand) (d : Delivery) : Type 0 where
  pub within : d.child < length t.machine.nodes
  pub first : model.Delivery
  pub others : List model.Delivery
  pub waits : (instance_of t).waiting ≡ first ∷ others
  pub same : SameDelivery (label t.program) (path_at t.machine.nodes) (node_of t).procedure d first

abbrev pub OldestIsTold : Type 0
OldestIsTold = (t : InHand) (d : Delivery) (ds : List Delivery) → (node_of t).waiting ≡ d ∷ ds → Oldest t d

abbrev pub NoneIsTold : Type 0
NoneIsTold = (t : InHand) → (node_of t).waiting ≡ [] → (instance_of t).waiting ≡ []

-- what a choice asks of the standing: who the workers are, what each has, and which instance stands where
pub record Placed (m : MachineParts) (who : ℕ → Instance) (at : Standing) : Type 0 where
  pub workers : length at.scheduler.places ≡ length m.places
  pub hand : (w : ℕ) → sched.hand_of at.scheduler.places w ≡ option_map (name_in m.nodes) (hand_of m.places w)
  pub deque : (w : ℕ) → sched.deque_of at.scheduler.places w ≡ map (name_in m.nodes) (deque_of m.places w)
  pub found : (i : ℕ) → is_live (node_at m.nodes i) ≡ true → instance_at at.state.instances (path_at m.nodes i) ≡ Some (who i)
  pub children : (i : ℕ) → i < length m.nodes → state.has_live_child at.state.instances (path_at m.nodes i) ≡ has_live_child m.nodes i
  pub count : length at.state.instances ≡ length (live_ids m.nodes)

abbrev pub PlacedOf : Type 0
PlacedOf = (p : Program) (m : MachineParts) (who : ℕ → Instance) (at : Standing) → Agrees p m who at → Placed m who at
