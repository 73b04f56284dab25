-- A delivery is taken: the plan is the step.
use Rattle.std.proofs.Common.{◌≡◌, ℕ, suc, ◌<◌, ℤ, List, [], ◌∷◌, length, Some, Result, Ok, Err, refl, sym, ap, ◌∙◌, subst, arith}
use Rattle.cilk_machine_agree.specs.model.declared.trap.Trap.{Trap}
use Rattle.cilk_machine_agree.specs.nodes.Areas.{slot_cell}
use Rattle.cilk_machine_agree.specs.labelled.Labelled.{Labelled}
use Rattle.cilk_machine_agree.specs.labelled.Bodies.{label}
use Rattle.cilk_machine_agree.specs.model.Values.{Reached, combined, cell_of}
use Rattle.cilk_machine_agree.specs.model.Instance as model
use Rattle.cilk_machine_agree.specs.model.Instance.{Instance}
use Rattle.cilk_machine_agree.specs.model.State as state
use Rattle.cilk_machine_agree.specs.model.State.{store_of}
use Rattle.cilk_machine_agree.specs.model.Pick.{step_by_place, step_by_receiver}
use Rattle.cilk_machine_agree.specs.nodes.Table as table
use Rattle.cilk_machine_agree.specs.frame.Stands.{StandsFor}
use Rattle.cilk_machine_agree.proofs.frame_laws.Tops.{depth-is}
use Rattle.cilk_machine_agree.proofs.frame_laws.Values.{cell-same}
use Rattle.cilk_machine_agree.specs.spawn.declared.delivery.Delivery.{Delivery}
use Rattle.cilk_machine_agree.specs.frame.declared.receiver.Receiver.{Receiver}
use Rattle.cilk_machine_agree.specs.frame.declared.receiver.Receiver.TheVariants.{Nothing, Place, Call}
use Rattle.cilk_machine_agree.specs.spawn.Nodes.{path_at}
use Rattle.cilk_machine_agree.specs.Alike.{Receives, SameDelivery}
use Rattle.cilk_machine_agree.specs.Laws.{InHand, path_of, node_of, instance_of}
use Rattle.cilk_machine_agree.specs.Asked.{Asked}
use Rattle.cilk_machine_agree.proofs.Alone.{holds}
use Rattle.cilk_machine_agree.proofs.Actions.{told}
use Rattle.cilk_machine_plan.specs.declared.plan.Plan.TheVariants as plan
use Rattle.cilk_machine_plan.specs.Made.{taken_by, takes_by, inlet_of_node, inlet_of_action}
use Rattle.cilk_machine_plan.specs.Plans.{input_in, step_in, IsPlan, Oldest}
use Rattle.cilk_machine_plan.specs.StepInput.{StepInput, cells_in}
use Rattle.cilk_machine_plan.proofs.Acts.{takes-from}
use Rattle.cilk_machine_plan.proofs.Gifts.{input-seen}

module _ (t : InHand) (asked : Asked t) where
  abbrev program : Labelled
  program = label t.program

  abbrev g : StepInput
  g = input_in t

  abbrev i : Instance
  i = instance_of t

  abbrev s : state.State
  s = t.at.state

  stands : StandsFor program t.frame i
  stands = (holds t).stands

  -- at a boundary the procedure's own activation is on top
  procedure-is : i.below ≡ [] → (node_of t).procedure ≡ i.top.body
  procedure-is alone =
      (told t).procedure
      ∙ ap
      (λ ms. Rattle.cilk_machine_agree.specs.frame.Stands.lowest_of i.top.body (Rattle.cilk_machine_agree.specs.frame.Stands.bodies_of ms))
      alone

  place-plan : (child : ℕ) (first : Oldest t child) (slot : Rattle.cilk_machine_agree.specs.nodes.declared.slot.Slot.Slot) (index : ℕ) (r : Reached)
      → Rattle.cilk_machine_agree.specs.frame.Cells.SameCell program i.top.body slot index r.cell → (n : ℕ) (z : ℤ)
      → step_in t
      ≡ step_by_place s (path_of t) i first.others first.oldest.child r n
      (combined r.op (cell_of (store_of s (path_of t) i) r.cell.place r.cell.index) z)
      → IsPlan t (takes_by n (combined r.op (slot_cell (cells_in g) slot index) z) (λ y. plan.Take child n (record { slot = slot; index = index }) y))
  place-plan child first slot index r same n z step =
      let seen = input-seen t asked t.frame i stands refl refl in
      let cell : slot_cell (cells_in g) slot index ≡ cell_of (store_of s (path_of t) i) r.cell.place r.cell.index =
      (λ j. slot_cell (cells_in g) (same.slot_is j) (same.index_is j))
      ∙ cell-same program i.top.body (cells_in g) (store_of s (path_of t) i) seen r.cell.place r.cell.index same.there in
      subst (λ x. IsPlan t (takes_by n (combined r.op x z) (λ y. plan.Take child n (record { slot = slot; index = index }) y))) (sym cell)
      (by_sum (combined r.op (cell_of (store_of s (path_of t) i) r.cell.place r.cell.index) z) step)
    where
      by_sum : (x : Result ℤ Trap) → step_in t ≡ step_by_place s (path_of t) i first.others first.oldest.child r n x
          → IsPlan t (takes_by n x (λ y. plan.Take child n (record { slot = slot; index = index }) y))
      by_sum (Ok y) k = record { first = first; at = record { cell = r.cell; same = same }; step = k }
      by_sum (Err trap) k = k

  receiver-plan : (child : ℕ) (first : Oldest t child) → i.below ≡ [] → (z : ℤ) (w : Receiver) (r : model.Receiver) → Receives program i.top.body w (Some r)
      → step_in t ≡ step_by_receiver program s (path_of t) i first.others first.oldest.child z r → IsPlan t (taken_by g child z w)
  receiver-plan child first alone z Nothing r h step = absurd h
  receiver-plan child first alone z (Place op slot index n) (model.place r k) (op_is, n_is, same) step =
      subst
      (λ x. IsPlan t (takes_by n (combined x (slot_cell (cells_in g) slot index) z)
      (λ y. plan.Take child n (record { slot = slot; index = index }) y))) (sym op_is)
      (place-plan child first slot index r same n z
      (step
      ∙ ap (λ x. step_by_place s (path_of t) i first.others first.oldest.child r x
      (combined r.op (cell_of (store_of s (path_of t) i) r.cell.place r.cell.index) z)) (sym n_is)))
  receiver-plan child first alone z (Place op slot index n) (model.through inlet ys k) h step = absurd h
  receiver-plan child first alone z (Call n args) (model.place r k) h step = absurd h
  receiver-plan child first alone z (Call n args) (model.through inlet ys k) (n_is, args_is, c) step =
      let inlet_is : inlet_of_node (table.node_of t.program n) ≡ inlet =
      ap (λ x. inlet_of_node (table.node_of t.program x)) n_is ∙ ap inlet_of_node c.there ∙ ap inlet_of_action c.spawns in
      let made : plan.Enter child n inlet (z ∷ args)
      ≡ plan.Enter child n (inlet_of_node (table.node_of t.program n)) (z ∷ args) = ap (λ x. plan.Enter child n x (z ∷ args)) (sym inlet_is)
      in
      subst (λ x. IsPlan t x) made (record {
        first = first;
        takes =
            takes-from t.program inlet (suc (length ys)) (z ∷ args) (record { is_there = c.is_there; parameters = c.parameters })
            (ap (λ xs. suc (length xs)) args_is);
        owner = c.owner;
        inside =
            ap
            (λ ms. Rattle.cilk_machine_agree.specs.frame.Stands.lowest_of i.top.body
            (Rattle.cilk_machine_agree.specs.frame.Stands.bodies_of ms)) alone ∙ sym c.inside;
        depth = let d = depth-is program t.frame i stands in let none : length i.below ≡ 0 = ap length alone in omega (arith, d, none);
        step = step ∙ (λ j. step_by_receiver program s (path_of t) i first.others first.oldest.child z (model.through inlet (sym args_is j) (sym n_is j)));
      })

  -- the delivery that has waited longest
  pub delivery-plan : (d : Delivery) (e : model.Delivery) (others : List model.Delivery) → i.waiting ≡ e ∷ others → d.child < length t.machine.nodes
      → SameDelivery program (path_at t.machine.nodes) (node_of t).procedure d e → i.below ≡ []
      → step_in t ≡ step_by_receiver program s (path_of t) i others e.child e.value e.receiver → IsPlan t (taken_by g d.child d.value d.receiver)
  delivery-plan d e others waiting within same alone step =
      let first : Oldest t d.child = record { oldest = e; others = others; waiting = waiting; within = within; child_is = same.child } in
      receiver-plan d.child first alone d.value d.receiver e.receiver
      (subst (λ b. Receives program b d.receiver (Some e.receiver)) (procedure-is alone) same.receiver)
      (step ∙ ap (λ z. step_by_receiver program s (path_of t) i others e.child z e.receiver) (sym same.value))
