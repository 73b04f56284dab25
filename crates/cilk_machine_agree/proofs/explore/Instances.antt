-- A frame and a node stand for one instance.
use Rattle.std.proofs.Common.{◌≡◌, ℕ, ℤ, List, [], ◌∷◌, map, Option, Some, None, refl, sym, ap, ◌∙◌, subst}
use Rattle.std.specs.Prelude.{reverse}
use Rattle.cilk_machine_agree.specs.syntax.Tree.{Program}
use Rattle.cilk_machine_agree.specs.syntax.declared.operator.BinOp.{BinOp}
use Rattle.cilk_machine_agree.specs.scopes.WellFormed.{WellFormed}
use Rattle.cilk_machine_agree.specs.sched.nodes.declared.slot.Slot.{Slot}
use Rattle.cilk_machine_agree.specs.labelled.Labelled.{Labelled}
use Rattle.cilk_machine_agree.specs.labelled.Bodies.{label}
use Rattle.cilk_machine_agree.specs.model.Path.{Path}
use Rattle.cilk_machine_agree.specs.model.Values.{Reached}
use Rattle.cilk_machine_agree.specs.model.Instance as model
use Rattle.cilk_machine_agree.specs.model.Instance.{Instance, body_at}
use Rattle.cilk_machine_agree.specs.nodes.declared.action.Action.TheVariants.{Call, Spawn}
use Rattle.cilk_machine_agree.specs.nodes.declared.node.Node as action
use Rattle.cilk_machine_agree.specs.nodes.declared.taker.Taker.TheVariants.{Through}
use Rattle.cilk_machine_agree.specs.nodes.declared.target.Target.{Target}
use Rattle.cilk_machine_agree.specs.nodes.Slots.{size_of}
use Rattle.cilk_machine_agree.specs.nodes.Table.{number_of}
use Rattle.cilk_machine_agree.proofs.nodes_laws.Heads.{heads-tell}
use Rattle.cilk_machine_agree.specs.frame.declared.awaited.Await.{Await}
use Rattle.cilk_machine_agree.specs.frame.Frames.{Activation, Frame}
use Rattle.cilk_machine_agree.specs.frame.Cells.{SameCell}
use Rattle.cilk_machine_agree.specs.frame.Stands.{node_in, AwaitsAt, AwaitsSame, Activates, bodies_of, AllActivate, StandsFor}
use Rattle.cilk_machine_agree.specs.spawn.declared.delivery.Delivery.{Delivery}
use Rattle.cilk_machine_agree.specs.frame.declared.receiver.Receiver.{Receiver}
use Rattle.cilk_machine_agree.specs.frame.declared.receiver.Receiver.TheVariants as code
use Rattle.cilk_machine_agree.specs.spawn.Nodes.{Node}
use Rattle.cilk_machine_agree.specs.Alike.{CallsInlet, Receives, SameDelivery, SameDeliveries, taker_of, NodeStandsFor}
use Rattle.cilk_machine_agree.proofs.explore.Cells.{one-values, one-cell}

module _ (program : Labelled) where
  one-node : (n : ℕ) (x y : action.Node) → node_in program n ≡ Some x → node_in program n ≡ Some y → x.action ≡ y.action
  one-node n x y h k =
      let same : Some x ≡ Some y = sym h ∙ k in
      let is : x ≡ y = cc in
      ap (λ (z : action.Node). z.action) is

  one-reached : (b : ℕ) (op : Option BinOp) (slot : Slot) (index : ℕ) (r s : Reached) → op ≡ r.op → op ≡ s.op → SameCell program b slot index r.cell
      → SameCell program b slot index s.cell → r ≡ s
  one-reached b op slot index r s h k x y =
      let cell = one-cell program b slot index r.cell s.cell x y in
      let ops = sym h ∙ k in
      λ i. record { op = ops i; cell = cell i }

  one-awaited : (b : ℕ) (w : Await) (r s : Reached) → AwaitsAt program b w r → AwaitsAt program b w s → r ≡ s
  one-awaited b w r s h k =
      let calls : Call (Some h.target) h.callee h.arguments ≡ Call (Some k.target) k.callee k.arguments = sym h.calls
      ∙ one-node w.n h.node k.node h.there k.there ∙ k.calls in
      let target : h.target ≡ k.target = cc in
      one-reached b h.target.op h.target.place.slot w.index r s h.op_is (ap (λ (t : Target). t.op) target ∙ k.op_is) h.same
      (subst (λ (t : Target). SameCell program b t.place.slot w.index s.cell) (sym target) k.same)

  -- what awaits a value
  one-await : (w : Option Await) (r s : Option Reached) (bodies : List ℕ) → AwaitsSame program w r bodies → AwaitsSame program w s bodies → r ≡ s
  one-await None None None bodies h k = refl
  one-await None None (Some s) bodies h k = absurd k
  one-await (Some w) (Some r) None bodies h k = absurd k
  one-await (Some w) (Some r) (Some s) (b ∷ bodies) h k = ap Some (one-awaited b w r s h k)
  one-await w r s bodies h k = absurd h

  one-inlet : (b n inlet other : ℕ) (values others : List ℤ) → CallsInlet program b n inlet values → CallsInlet program b n other others → inlet ≡ other
  one-inlet b n inlet other values others h k =
      let spawns : Spawn (Through inlet h.others) h.callee h.arguments ≡ Spawn (Through other k.others) k.callee k.arguments = sym h.spawns
      ∙ one-node n h.node k.node h.there k.there ∙ k.spawns in
      cc

  -- what takes a value
  one-receiver : (b : ℕ) (r : Receiver) (x y : Option model.Receiver) → Receives program b r x → Receives program b r y → x ≡ y
  one-receiver b code.Nothing None None h k = refl
  one-receiver b code.Nothing None (Some y) h k = absurd k
  one-receiver b (code.Place op slot index spawn) (Some (model.place r n)) (Some (model.place s m)) h k =
      let reached = one-reached b op slot index r s h.0 k.0 h.2 k.2 in
      let spawns = sym h.1 ∙ k.1 in
      λ i. Some (model.place (reached i) (spawns i))
  one-receiver b (code.Place op slot index spawn) (Some (model.place r n)) y h k = absurd k
  one-receiver b (code.Call spawn args) (Some (model.through inlet others n)) (Some (model.through other values m)) h k =
      let spawns : n ≡ m = sym h.0 ∙ k.0 in
      let inlets = one-inlet b n inlet other others values h.2 (subst (λ j. CallsInlet program b j other values) (sym spawns) k.2) in
      let given = sym h.1 ∙ k.1 in
      λ i. Some (model.through (inlets i) (given i) (spawns i))
  one-receiver b (code.Call spawn args) (Some (model.through inlet others n)) y h k = absurd k
  one-receiver b r x y h k = absurd h

  one-delivery : (up : ℕ → Path) (b : ℕ) (d : Delivery) (x y : model.Delivery) → SameDelivery program up b d x → SameDelivery program up b d y → x ≡ y
  one-delivery up b d x y h k =
      let some : Some x.receiver ≡ Some y.receiver = one-receiver b d.receiver (Some x.receiver) (Some y.receiver) h.receiver k.receiver in
      let child = sym h.child ∙ k.child in
      let value = sym h.value ∙ k.value in
      let receiver : x.receiver ≡ y.receiver = cc in
      λ i. record { child = child i; value = value i; receiver = receiver i }

  -- what waits for an instance
  one-waiting : (up : ℕ → Path) (b : ℕ) (ds : List Delivery) (xs ys : List model.Delivery) → SameDeliveries program up b ds xs
      → SameDeliveries program up b ds ys → xs ≡ ys
  one-waiting up b [] [] [] h k = refl
  one-waiting up b [] [] (y ∷ ys) h k = absurd k
  one-waiting up b (d ∷ ds) (x ∷ xs) [] h k = absurd k
  one-waiting up b (d ∷ ds) (x ∷ xs) (y ∷ ys) h k =
      let first = one-delivery up b d x y h.0 k.0 in
      let others = one-waiting up b ds xs ys h.1 k.1 in
      λ i. first i ∷ others i
  one-waiting up b ds xs ys h k = absurd h

module _ (p : Program) (well : WellFormed p) where
  -- the number of a node tells its body and what remains of it
  one-activation : (a : Activation) (m n : model.Activation) (bodies : List ℕ) → Activates (label p) a m → Activates (label p) a n
      → AwaitsSame (label p) a.awaits m.awaits bodies → AwaitsSame (label p) a.awaits n.awaits bodies → m ≡ n
  one-activation a m n bodies x y v w =
      let tells = heads-tell p m.body n.body x.answers y.answers a.node well
      (record { is_there = x.is_there; number = ap number_of (sym x.reached_by) ∙ x.node_is })
      (record { is_there = y.is_there; number = ap number_of (sym y.reached_by) ∙ y.node_is }) in
      let items = x.reached_by ∙ tells.1 ∙ sym y.reached_by in
      let values = one-values m.values n.values
      (x.sizes_are ∙ ap (λ b. map size_of (body_at (label p) b).variables) tells.0 ∙ sym y.sizes_are) (sym x.cells_are ∙ y.cells_are) in
      let awaits = one-await (label p) a.awaits m.awaits n.awaits bodies v w in
      λ i. record { body = tells.0 i; items = items i; values = values i; awaits = awaits i }

  one-activations : (xs : List Activation) (ms ns : List model.Activation) → AllActivate (label p) xs ms → AllActivate (label p) xs ns → ms ≡ ns
  one-activations [] [] [] h k = refl
  one-activations [] [] (n ∷ ns) h k = absurd k
  one-activations (x ∷ xs) (m ∷ ms) [] h k = absurd k
  one-activations (x ∷ xs) (m ∷ ms) (n ∷ ns) h k =
      let others = one-activations xs ms ns h.2 k.2 in
      let first = one-activation x m n (bodies_of ms) h.0 k.0 h.1
      (subst (λ qs. AwaitsSame (label p) x.awaits n.awaits (bodies_of qs)) (sym others) k.1) in
      λ i. first i ∷ others i
  one-activations xs ms ns h k = absurd h

  pub one-instance : (up : ℕ → Path) (procedures : ℕ → ℕ) (f : Frame) (node : Node) (i j : Instance) → StandsFor (label p) f i → StandsFor (label p) f j
      → NodeStandsFor (label p) up procedures node i → NodeStandsFor (label p) up procedures node j → i ≡ j
  one-instance up procedures f node i j s t x y =
      let all : i.top ∷ i.below ≡ j.top ∷ j.below
      = one-activations (reverse f.activations) (i.top ∷ i.below) (j.top ∷ j.below) s.activations t.activations in
      let top : i.top ≡ j.top = cc in
      let below : i.below ≡ j.below = cc in
      let spawned = sym s.flag ∙ t.flag in
      let waiting = one-waiting (label p) up node.procedure node.waiting i.waiting j.waiting x.waiting y.waiting in
      let children = sym x.children ∙ y.children in
      let aborted = sym x.aborted ∙ y.aborted in
      let receiver = one-receiver (label p) (taker_of procedures node.parent) node.receiver i.receiver j.receiver x.receiver y.receiver in
      λ k. record {
        top = top k;
        below = below k;
        spawned = spawned k;
        waiting = waiting k;
        children = children k;
        aborted = aborted k;
        receiver = receiver k;
      }
