-- What a scene shows of the next step of an instance is what the definition of accesses says.
use Rattle.std.proofs.Common.{◌≡◌, Bool, true, false, ◌&&◌, ◌||◌, List, [], ◌∷◌, Some, refl, sym, ap, ◌∙◌, subst, if◌then◌else◌}
use Rattle.cilk_machine_plan.specs.scopes.WellFormed.{WellFormed}
use Rattle.cilk_machine_plan.specs.labelled.Labelled.{Labelled, Declaration, Action, assign, call, spawn, print, locking, null, break_off}
use Rattle.cilk_machine_plan.specs.labelled.Labelled.{go_round, tests, sync, abort, return_with, return_nothing, close}
use Rattle.cilk_machine_plan.specs.labelled.Items.{head_of}
use Rattle.cilk_machine_plan.specs.labelled.Bodies.{label}
use Rattle.cilk_machine_plan.specs.nodes.declared.slot.Slot.{Slot}
use Rattle.cilk_machine_plan.specs.model.Path.{Path}
use Rattle.cilk_machine_plan.specs.model.Instance as model
use Rattle.cilk_machine_plan.specs.model.Instance.{Instance}
use Rattle.cilk_machine_plan.specs.model.State.{State, is_empty}
use Rattle.cilk_machine_plan.specs.model.Change as change
use Rattle.cilk_machine_plan.specs.nodes.declared.node.Node.{Node}
use Rattle.cilk_machine_plan.specs.nodes.Actions.{slotted}
use Rattle.cilk_machine_plan.specs.nodes.Slots.{slot_of}
use Rattle.cilk_machine_plan.specs.nodes.Table.{node_of}
use Rattle.cilk_machine_plan.specs.spawn.declared.delivery.Delivery.{Delivery}
use Rattle.cilk_machine_plan.specs.frame.declared.receiver.Receiver.{Receiver}
use Rattle.cilk_machine_plan.specs.frame.declared.receiver.Receiver.TheVariants.{Nothing, Place, Call}
use Rattle.cilk_machine_plan.specs.spawn.Nodes.{path_at}
use Rattle.cilk_machine_plan.specs.agree.Alike.{Receives, SameDeliveries}
use Rattle.cilk_machine_plan.specs.agree.Laws.{InHand, path_of, instance_of}
use Rattle.cilk_machine_plan.specs.agree.Laws as laws
use Rattle.cilk_machine_plan.specs.agree.Asked.{Asked}
use Rattle.cilk_machine_plan.proofs.agree_laws.Actions.{told}
use Rattle.cilk_machine_plan.proofs.agree_laws.Asked.{asked}
use Rattle.cilk_machine_plan.proofs.effects_laws.KnownActions.{heads, follows}
use Rattle.cilk_machine_plan.specs.Made as made
use Rattle.cilk_machine_plan.specs.Plans.{input_in}
use Rattle.cilk_machine_plan.specs.StepInput.{StepInput, is_outer}
use Rattle.cilk_machine_plan.proofs.Gifts.{outer-is}
use Rattle.cilk_machine_plan.proofs.Heads.{Sound, stands, head-of, head, own_node, node-is}
use Rattle.cilk_machine_step.specs.Accesses as accesses
use Rattle.cilk_machine_step.specs.Accesses.{Access, accesses_of}
use Rattle.cilk_machine_step.specs.Shown as shown
use Rattle.cilk_machine_step.specs.Shown.{touched}
use Rattle.cilk_machine_step.proofs.Acts.{acted-same, cell-declared, leaves-same, lowest-alone, top-sees}
use Rattle.cilk_machine_step.proofs.Seen.{update-same}

-- nor does it whether it is a `sync`
sync-same : (name : Declaration → Slot) (act : Action) → made.is_sync (slotted name act) ≡ change.is_sync act
sync-same name (assign place value) = refl
sync-same name (call place callee arguments) = refl
sync-same name (spawn taker callee arguments) = refl
sync-same name (print format arguments) = refl
sync-same name (locking what lock) = refl
sync-same name null = refl
sync-same name break_off = refl
sync-same name go_round = refl
sync-same name (tests value) = refl
sync-same name sync = refl
sync-same name abort = refl
sync-same name (return_with value) = refl
sync-same name return_nothing = refl
sync-same name close = refl

first-true : (x y : Bool) → (x && y) ≡ true → x ≡ true
first-true true y h = refl
first-true false y h = h

module _ (t : InHand) (sound : Sound t.program) (asked : Asked t) where
  abbrev program : Labelled
  program = label t.program

  abbrev g : StepInput
  g = input_in t

  abbrev i : Instance
  i = instance_of t

  abbrev p : Path
  p = path_of t

  abbrev s : State
  s = t.at.state

  abbrev node : Node
  node = own_node t sound

  abbrev act : Action
  act = (head t sound).act

  abbrev name : Declaration → Slot
  name = slot_of program i.top.body

  boundary-same : made.at_boundary g node ≡ change.at_boundary i
  boundary-same =
      (λ j. outer-is t j && ((stands t sound).flag j || (sync-same name act j || leaves-same name act j)))
      ∙ by_outer (is_empty i.below) (change.is_sync act || change.leaves act)
      ∙ ap (λ o. is_empty i.below && (i.spawned || change.head_waits i o)) (sym (head-of t sound).is)
    where
      by_outer : (alone waits : Bool) → (alone && (i.spawned || waits)) ≡ (alone && (i.spawned || (alone && waits)))
      by_outer true waits = refl
      by_outer false waits = refl

  head-same : shown.acted g node ≡ accesses.by_head program s p i (head_of i.top.items)
  head-same = acted-same t sound asked ∙ ap (accesses.by_head program s p i) (sym (head-of t sound).is)

  receiver-same : (w : Receiver) (r : model.Receiver) → Receives program i.top.body w (Some r) → shown.taken g w ≡ accesses.by_receiver p i r
  receiver-same Nothing r h = absurd h
  receiver-same (Place op slot index n) (model.place r k) (op_is, n_is, same) =
      (λ j. shown.update g (is_outer g) (op_is j) (same.slot_is j) (same.index_is j))
      ∙ update-same g (is_outer g) i.top.body i (top-sees t sound asked) r.op r.cell.place r.cell.index
      (cell-declared program i.top.body r.cell.place r.cell.index same.there)
  receiver-same (Place op slot index n) (model.through inlet others k) h = absurd h
  receiver-same (Call n args) (model.place r k) h = absurd h
  receiver-same (Call n args) (model.through inlet others k) h = refl

  deliveries-same : (ds : List Delivery) (es : List model.Delivery) → SameDeliveries program (path_at t.machine.nodes) i.top.body ds es
      → shown.by_deliveries g node ds ≡ accesses.at_boundary_by program s p i es
  deliveries-same [] [] h = head-same
  deliveries-same [] (e ∷ es) h = absurd h
  deliveries-same (d ∷ ds) [] h = absurd h
  deliveries-same (d ∷ ds) (e ∷ es) (first, others) = receiver-same d.receiver e.receiver first.receiver

  abbrev live : Bool → List Access
  live boundary = if boundary then accesses.at_boundary_by program s p i i.waiting else accesses.by_head program s p i (head_of i.top.items)

  abbrev waiting : List Delivery
  waiting = (laws.node_of t).waiting

  node-same : shown.by_node g node ≡ live (change.at_boundary i)
  node-same = ap (λ x. if x then shown.by_deliveries g node waiting else shown.acted g node) boundary-same ∙ by (change.at_boundary i) refl
    where
      by : (boundary : Bool) → change.at_boundary i ≡ boundary
          → (if boundary then shown.by_deliveries g node waiting else shown.acted g node) ≡ live boundary
      by true e =
          let alone : is_empty i.below ≡ true = first-true (is_empty i.below) (i.spawned || change.head_waits i (head_of i.top.items)) e in
          deliveries-same waiting i.waiting
          (subst (λ c. SameDeliveries program (path_at t.machine.nodes) c waiting i.waiting)
          ((told t).procedure ∙ lowest-alone i.top.body i.below alone) (told t).waiting)
      by false e = head-same

  shown-here : touched g ≡ accesses_of program s p i
  shown-here =
      (λ j. if (told t).aborted j then [] else shown.by_head g
      ((ap (node_of t.program) (sym (head-of t sound).number) ∙ node-is t sound) j))
      ∙ ap (λ xs. if i.aborted then [] else xs) node-same

pub accesses-shown : (t : InHand) → WellFormed t.program → touched (input_in t) ≡ accesses_of (label t.program) t.at.state (path_of t) (instance_of t)
accesses-shown t well =
    shown-here t (record {
      well = well;
      heads = λ b answers head there at. heads t.program b answers head well there at;
      follows = λ b answers answer head there at goes. follows t.program b answers answer head well there at goes;
    }) (asked t)
