-- What a step asks of the standing is told by the machine.
use Rattle.std.proofs.Common.{◌≡◌, ◌&&◌, not, ℕ, List, [], ◌∷◌, length, refl, sym, ap, ◌∙◌, subst, slice_index_or}
use Rattle.std.specs.List.{list_any}
use Rattle.std.proofs.lemmas.List.{length-map}
use Rattle.std.proofs.lemmas.List.Elements.{All-head}
use Rattle.cilk_laws_model.specs.labelled.Labelled.{Labelled}
use Rattle.cilk_laws_model.specs.labelled.Bodies.{label}
use Rattle.cilk_laws_model.specs.model.Path.{Path}
use Rattle.cilk_laws_model.specs.model.Instance as model
use Rattle.cilk_laws_model.specs.model.State as state
use Rattle.cilk_laws_model.specs.model.State.{store_of}
use Rattle.cilk_laws_model.specs.model.Change as change
use Rattle.cilk_laws_model.specs.model.Scheduler as sched
use Rattle.cilk_sched.specs.frame.Reads.{Seen, lent, seen_by}
use Rattle.cilk_sched.proofs.frame_laws.Steps.{lent-seen}
use Rattle.cilk_spawn.specs.declared.delivery.Delivery.{Delivery}
use Rattle.cilk_spawn.specs.Nodes.{IsFrom, AreFrom, has_live_child, is_synched, live_ids, path_at}
use Rattle.cilk_spawn.proofs.Trees.{child_there}
use Rattle.cilk_sched.proofs.PathNames.{named-length, hand_of-named, deque_of-named}
use Rattle.cilk_machine_agree.specs.Alike.{SameDelivery, SameDeliveries}
use Rattle.cilk_machine_agree.specs.Agrees.{entry_of, name_in}
use Rattle.cilk_machine_agree.specs.Laws.{InHand, path_of, node_of, instance_of}
use Rattle.cilk_machine_agree.specs.Asked.{AskedOf, OldestIsTold, NoneIsTold, PlacedOf}
use Rattle.cilk_machine_agree.proofs.Alone.{holds, inside, free}
use Rattle.cilk_machine_agree.proofs.Found.{found, child-is, same-empty, empty-is}
use Rattle.cilk_machine_agree.proofs.Locks.{holds-same, lock-turn-same, lock-turned-within}
use Rattle.cilk_machine_agree.proofs.Actions.{told}

module _ (t : InHand) where
  child-same : state.has_live_child t.at.state.instances (path_of t) ≡ has_live_child t.machine.nodes t.frame.id
  child-same =
      ap (λ es. state.has_live_child es (path_of t)) t.agrees.instances ∙ child-is t.machine.nodes t.who t.frame.id t.agrees.tree (inside t)

  synched-same : state.is_synched t.at.state (path_of t) (instance_of t) ≡ is_synched t.machine.nodes t.frame.id
  synched-same =
      let empty =
      same-empty (label t.program) (path_at t.machine.nodes) (node_of t).procedure (node_of t).waiting (instance_of t).waiting (told t).waiting
      ∙ empty-is (node_of t).waiting in
      λ j. not (child-same j) && empty j

  seen : Seen (label t.program) (instance_of t).top.body
      (lent t.frame t.machine.outside.cells (is_synched t.machine.nodes t.frame.id))
      (store_of t.at.state (path_of t) (instance_of t))
  seen =
      let o = t.agrees.outside in
      let globals = t.at.state.globals in
      let body = (instance_of t).top.body in
      let now = state.is_synched t.at.state (path_of t) (instance_of t) in
      subst (λ b. Seen (label t.program) body (lent t.frame t.machine.outside.cells b) (seen_by (instance_of t) globals now)) synched-same
      (subst (λ cells. Seen (label t.program) body (lent t.frame cells now) (seen_by (instance_of t) globals now)) (sym o.cells)
      (lent-seen (label t.program) t.frame (instance_of t) globals now (holds t).stands o.sizes))

pub asked : AskedOf
asked t =
    let ns = t.machine.nodes in
    let k = t.frame.id in
    let tree = t.agrees.tree in
    let o = t.agrees.outside in
    record {
      live = (holds t).live;
      free = free t;
      there = ap (λ es. state.instance_at es (path_of t)) t.agrees.instances ∙ found ns t.who k tree (holds t).live;
      stands = (holds t).stands;
      told = told t;
      seen = seen t;
      childless = child-same t;
      synched = synched-same t;
      holds = ap (list_any (change.is_held_by (path_of t))) o.locks ∙ holds-same ns tree k (inside t) t.machine.outside.locks o.holders;
      lock_turn = λ what l.
          ap (λ ls. change.lock_turn_by (path_of t) what (slice_index_or ls l state.unset)) o.locks
          ∙ lock-turn-same ns tree k (inside t) what t.machine.outside.locks l o.holders;
      lock_turned_within = λ what l now e. lock-turned-within ns tree k (inside t) what t.machine.outside.locks l now e;
      count = ap length t.agrees.instances ∙ length-map (live_ids ns) (entry_of ns t.who);
    }

-- the first of both lists
pub record Firsts (program : Labelled) (up : ℕ → Path) (b : ℕ) (d : Delivery) (es : List model.Delivery) : Type 0 where
  pub first : model.Delivery
  pub others : List model.Delivery
  pub are : es ≡ first ∷ others
  pub same : SameDelivery program up b d first

firsts : (program : Labelled) (up : ℕ → Path) (b : ℕ) (d : Delivery) (ds : List Delivery) (es : List model.Delivery)
    → SameDeliveries program up b (d ∷ ds) es → Firsts program up b d es
firsts program up b d ds [] h = absurd h
firsts program up b d ds (e ∷ es) h = record { first = e; others = es; are = refl; same = h.0 }

pub oldest-told : OldestIsTold
oldest-told t d ds is =
    let ns = t.machine.nodes in
    let k = t.frame.id in
    let up = path_at ns in
    let b = (node_of t).procedure in
    let f = firsts (label t.program) up b d ds (instance_of t).waiting
    (subst (λ xs. SameDeliveries (label t.program) up b xs (instance_of t).waiting) is (told t).waiting) in
    let from : IsFrom ns k d = All-head (IsFrom ns k) d ds (subst (AreFrom ns k) is (t.agrees.tree.sent k)) in
    record { within = child_there ns d.child k from; first = f.first; others = f.others; waits = f.are; same = f.same }

none-first : (program : Labelled) (up : ℕ → Path) (b : ℕ) (es : List model.Delivery) → SameDeliveries program up b [] es → es ≡ []
none-first program up b [] h = refl
none-first program up b (e ∷ es) h = absurd h

pub none-told : NoneIsTold
none-told t is =
    let up = path_at t.machine.nodes in
    let b = (node_of t).procedure in
    none-first (label t.program) up b (instance_of t).waiting
    (subst (λ xs. SameDeliveries (label t.program) up b xs (instance_of t).waiting) is (told t).waiting)

pub placed : PlacedOf
placed p m who at h = record {
  workers = ap length h.places ∙ named-length (name_in m.nodes) m.places;
  hand = λ w. ap (λ ps. sched.hand_of ps w) h.places ∙ hand_of-named (name_in m.nodes) m.places w;
  deque = λ w. ap (λ ps. sched.deque_of ps w) h.places ∙ deque_of-named (name_in m.nodes) m.places w;
  found = λ i live. ap (λ es. state.instance_at es (path_at m.nodes i)) h.instances ∙ found m.nodes who i h.tree live;
  children = λ i lt. ap (λ es. state.has_live_child es (path_at m.nodes i)) h.instances ∙ child-is m.nodes who i h.tree lt;
  count = ap length h.instances ∙ length-map (live_ids m.nodes) (entry_of m.nodes who);
}
