-- The oldest delivery is taken: its child has lost its value.
use Rattle.std.proofs.Common.{◌≡◌, ◌<◌, ℕ, List, [], ◌∷◌, drop, length, length-set, Some, refl, sym, ap, subst, slice_get}
use Rattle.cilk_machine_plan.specs.labelled.Bodies.{label}
use Rattle.cilk_machine_plan.specs.syntax.Tree.{Program}
use Rattle.cilk_machine_plan.specs.model.Instance as model
use Rattle.cilk_machine_plan.specs.model.Instance.{Instance}
use Rattle.cilk_machine_plan.specs.model.Event as event
use Rattle.cilk_machine_plan.specs.model.Run.{Standing}
use Rattle.cilk_machine_plan.specs.spawn.declared.delivery.Delivery.{Delivery}
use Rattle.cilk_machine_plan.specs.spawn.Nodes.{node_at, after_taking, value_taken, with_waiting, taken, path_at}
use Rattle.cilk_machine_plan.specs.agree.Alike.{SameDeliveries}
use Rattle.cilk_machine_plan.specs.agree.Agrees.{MachineParts, Agrees}
use Rattle.cilk_machine_plan.specs.agree.Fated.{Follows}
use Rattle.cilk_machine_plan.specs.agree.Laws.{InHand, node_of, instance_of}
use Rattle.cilk_machine_plan.proofs.spawn_laws.Taking.{still_lives}
use Rattle.cilk_machine_plan.proofs.agree_laws.Alone.{inside}
use Rattle.cilk_machine_plan.proofs.agree_laws.Actions.{told}
use Rattle.cilk_machine_plan.proofs.agree_laws.Asked.{oldest-told}
use Rattle.cilk_machine_plan.proofs.agree_laws.Fates.{fates-agree}
use Rattle.cilk_machine_carry.proofs.Followed.{at_one, taken-one, followed, by-path}

-- the node's oldest delivery
pub record First (t : InHand) (oldest : model.Delivery) : Type 0 where
  pub delivery : Delivery
  pub is : slice_get (node_of t).waiting 0 ≡ Some delivery
  pub within : delivery.child < length t.machine.nodes
  pub child : path_at t.machine.nodes delivery.child ≡ oldest.child

module _ (t : InHand) (oldest : model.Delivery) (others : List model.Delivery) (waits : (instance_of t).waiting ≡ oldest ∷ others) where
  first-by : (ds : List Delivery) → (node_of t).waiting ≡ ds
      → SameDeliveries (label t.program) (path_at t.machine.nodes) (node_of t).procedure ds (oldest ∷ others) → First t oldest
  first-by [] is h = absurd h
  first-by (d ∷ ds) is h =
      let known = oldest-told t d ds is in
      record { delivery = d; is = ap (λ xs. slice_get xs 0) is; within = known.within; child = h.0.child }

  pub first-there : First t oldest
  first-there =
      first-by (node_of t).waiting refl
      (subst (λ es. SameDeliveries (label t.program) (path_at t.machine.nodes) (node_of t).procedure (node_of t).waiting es) waits (told t).waiting)

-- agreement is kept, once it is so with the delivery gone
pub taken-agrees : (p : Program) (m : MachineParts) (k choice : ℕ) (who : ℕ → Instance) (at : Standing) (d : Delivery) → d.child < length m.nodes
    → slice_get (node_at m.nodes k).waiting 0 ≡ Some d
    → Agrees p (record m { nodes = with_waiting m.nodes k (drop 1 (node_at m.nodes k).waiting) }) who at
    → Agrees p (record m { nodes = taken m.nodes k choice }) who at
taken-agrees p m k choice who at d within is h =
    let fewer = with_waiting m.nodes k (drop 1 (node_at m.nodes k).waiting) in
    subst (λ o. Agrees p (record m { nodes = value_taken o choice fewer }) who at) (sym is)
    (fates-agree p (record m { nodes = fewer }) who at h d.child (after_taking choice (node_at fewer d.child).fate)
    (subst (λ l. d.child < l) (sym (length-set m.nodes k (record (node_at m.nodes k) { waiting = drop 1 (node_at m.nodes k).waiting }))) within)
    (still_lives choice (node_at fewer d.child).fate))

pub taken-followed : (t : InHand) (choice n : ℕ) (oldest : model.Delivery) → First t oldest
    → Follows (label t.program) choice t.machine.nodes (taken t.machine.nodes t.frame.id choice) (event.delivered oldest.child n)
taken-followed t choice n oldest first =
    let ns = t.machine.nodes in
    let h = taken-one ns t.frame.id choice first.delivery (inside t) first.within first.is in
    followed (label t.program) choice ns t.agrees.tree (at_one first.delivery.child (after_taking choice)) _ (event.delivered oldest.child n) h h.size
    (by-path (label t.program) choice ns t.agrees.tree first.delivery.child (after_taking choice) oldest.child first.within first.child)
