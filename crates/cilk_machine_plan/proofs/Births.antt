-- A spawn, and bodies that are left: the plan is the step.
use Rattle.std.proofs.Common.{pos, ◌≡◌, ℕ, zero, suc, ◌+◌, ◌-◌, ◌^◌, Bool, true, false, ◌&&◌, nat_lt, List, [], ◌∷◌, map, length, Option, Ok, refl, sym}
use Rattle.std.proofs.Common.{ap, ◌∙◌, subst, arith, if◌then◌else◌}
use Rattle.std.specs.Prelude.{IsTrue}
use borrow.Author.Tests.{ltb-true}
use Rattle.std.proofs.lemmas.Bool.{ltb-false, and_parts}
use Rattle.std.proofs.lemmas.List.{length-map}
use Rattle.cilk_machine_agree.specs.labelled.Term.{Term, rename}
use Rattle.cilk_machine_agree.specs.labelled.Value.{Environment}
use Rattle.cilk_machine_agree.specs.labelled.Labelled.{Declaration, Labelled, Taker, nothing, into, through, spawn}
use Rattle.cilk_machine_agree.specs.labelled.Bodies.{label, is_procedure}
use Rattle.cilk_machine_agree.specs.model.Path.{child_path}
use Rattle.cilk_machine_agree.specs.model.Values.{environment}
use Rattle.cilk_machine_agree.specs.model.Instance as model
use Rattle.cilk_machine_agree.specs.model.Instance.{Instance, body_at}
use Rattle.cilk_machine_agree.specs.model.State as state
use Rattle.cilk_machine_agree.specs.model.State.{store_of}
use Rattle.cilk_machine_agree.specs.model.Effect as effect
use Rattle.cilk_machine_agree.specs.model.Change.{after_start}
use Rattle.cilk_machine_agree.specs.model.Event.{spawned}
use Rattle.cilk_machine_agree.specs.model.Pick.{Step, spawns, if_room, step_by_effect}
use Rattle.cilk_machine_agree.specs.nodes.declared.node.Node.{Node}
use Rattle.cilk_machine_agree.specs.nodes.Slots.{slot_of, is_inlet, procedure_around}
use Rattle.cilk_machine_agree.specs.frame.Stands.{AllInside, bodies_of}
use Rattle.cilk_eval.specs.effects.Known.{StandsIn}
use Rattle.cilk_eval.specs.effects.Slotted.{TakenCell, ReachesCells, slotted_receiver, slotted_effect}
use Rattle.cilk_eval.proofs.effects_laws.Meant.{not_inlet}
use Rattle.cilk_eval.proofs.effects_laws.Shapes as shapes
use Rattle.cilk_eval.proofs.effects_laws.Shapes.{values-count}
use Rattle.cilk_machine_agree.specs.Alike.{Receives}
use Rattle.cilk_machine_agree.specs.Laws.{InHand, path_of, node_of, instance_of}
use Rattle.cilk_machine_agree.specs.Asked.{Asked}
use Rattle.cilk_machine_agree.proofs.Alone.{holds}
use Rattle.cilk_machine_agree.proofs.Actions.{told}
use Rattle.cilk_machine_agree.specs.frame.declared.trap_kind.TrapKind.TheVariants as kind
use Rattle.cilk_machine_plan.specs.declared.plan.Plan.TheVariants as plan
use Rattle.cilk_machine_plan.specs.Made as made
use Rattle.cilk_machine_plan.specs.Made.{next_of, by_effect, has_room}
use Rattle.cilk_machine_plan.specs.Plans.{input_in, step_in, IsPlan}
use Rattle.cilk_machine_plan.proofs.Callees.{callee-named}
use Rattle.cilk_machine_plan.proofs.Acts.{Acting, takes-from}

-- a procedure's body is that of its own activation
below-none : (program : Labelled) (below : List model.Activation) (b : ℕ) → AllInside program (b ∷ bodies_of below)
    → IsTrue (is_procedure (body_at program b).owner) → below ≡ []
below-none program [] b h p = refl
below-none program (m ∷ ms) b (called, inlet, h) p = let no : IsTrue false = subst IsTrue called p in cc

-- the procedure of an inlet is the one that it stands in
around-at : (program : Labelled) (b h : ℕ) → StandsIn program b h → procedure_around program b ≡ h
around-at program zero h s = let low : h ≡ 0 = omega (arith, s.not_before) in sym low
around-at program (suc b) h s = by_place (nat_lt h (suc b)) refl (around-at program b h)
  where
    by_place : (later : Bool) → nat_lt h (suc b) ≡ later → (StandsIn program b h → procedure_around program b ≡ h) → procedure_around program (suc b) ≡ h
    by_place true e before =
        let lower = ltb-true h (suc b) e in
        let inlet : is_inlet (body_at program (suc b)).owner ≡ true = ap is_inlet (s.inlets (suc b) lower (omega arith)) in
        ap (λ x. if x then procedure_around program b else suc b) inlet
        ∙ before (record { not_before = omega (arith, lower); owner = s.owner; inlets = λ k after low. s.inlets k after (omega (arith, low)) })
    by_place false e before =
        let same : h ≡ suc b = omega (arith, s.not_before, ltb-false h (suc b) e) in
        let procedure : IsTrue (is_procedure (body_at program (suc b)).owner) = subst (λ k. IsTrue (is_procedure (body_at program k).owner)) same s.owner in
        ap (λ x. if x then procedure_around program b else suc b) (not_inlet (body_at program (suc b)).owner procedure) ∙ sym same

module _ (t : InHand) (asked : Asked t) (b m : ℕ) where
  abbrev program : Labelled
  program = label t.program

  abbrev i : Instance
  i = instance_of t

  abbrev s : state.State
  s = t.at.state

  abbrev slots : Declaration → Rattle.cilk_machine_agree.specs.nodes.declared.slot.Slot.Slot
  slots = slot_of program b

  abbrev env : Environment Declaration
  env = environment (store_of s (path_of t) i)

  procedure-is : (o : IsTrue (is_procedure (body_at program i.top.body).owner)) → (node_of t).procedure ≡ i.top.body
  procedure-is o =
      let inside : AllInside program (i.top.body ∷ bodies_of i.below) = ((holds t).stands).inside in
      (told t).procedure
      ∙ ap (λ ms. Rattle.cilk_machine_agree.specs.frame.Stands.lowest_of i.top.body (bodies_of ms))
      (below-none program i.below i.top.body inside o)

  receives : (taker : Taker) (callee : ℕ) (es : List (Term Declaration)) (node : Node) → Acting t b m (spawn taker callee es) node
      → (r : Option model.Receiver) → shapes.Takes env m taker r
      → TakenCell program b r → Receives program b (slotted_receiver slots r) r
  receives nothing callee es node a r h there = subst (λ x. Receives program b (slotted_receiver slots x) x) (sym h) tt
  receives (into what) callee es node a r (reached, is, of) there =
      subst (λ x. TakenCell program b x → Receives program b (slotted_receiver slots x) x) (sym is)
      (λ cell. (refl, refl, record { slot_is = refl; index_is = refl; there = cell })) there
  receives (through inlet others) callee es node a r (ys, is, values) there =
      let feeds = a.known.1.0 in
      subst (λ x. Receives program b (slotted_receiver slots x) x) (sym is) (
        refl,
        refl,
        record {
          node = node;
          others = map (rename slots) others;
          callee = callee;
          arguments = map (rename slots) es;
          there = a.there;
          body = a.node_body;
          spawns = a.action;
          count = values-count env others ys values ∙ sym (length-map others (rename slots));
          owner = feeds.owner;
          is_there = feeds.takes.is_there;
          parameters = feeds.takes.parameters ∙ ap suc (sym (values-count env others ys values));
          inside = around-at program inlet b feeds.stands_in;
        },
      )

  pub spawns-plan : (taker : Taker) (callee : ℕ) (es : List (Term Declaration)) (node : Node) → Acting t b m (spawn taker callee es) node
      → (x : effect.Effect) → shapes.Started env m taker callee es x
      → step_in t ≡ step_by_effect program s (path_of t) i m (Ok x) → ReachesCells program b x
      → IsPlan t (by_effect (input_in t) m node (Ok (slotted_effect slots m x)))
  spawns-plan taker callee es node a x w =
      subst
      (λ y. step_in t ≡ step_by_effect program s (path_of t) i m (Ok y) → ReachesCells program b y
      → IsPlan t (by_effect (input_in t) m node (Ok (slotted_effect slots m y)))) (sym w.is)
      (λ step there. by_room _ refl step there)
    where
      after : Step
      after =
          spawns (child_path (path_of t) (i.children + 1)) (after_start program s (path_of t) i w.receiver callee w.values)
          (spawned (child_path (path_of t) (i.children + 1)) m)

      then_plan : Rattle.cilk_machine_plan.specs.declared.plan.Plan.Plan
      then_plan = plan.Spawn m (slotted_receiver slots w.receiver) callee w.values (next_of node (pos 1))

      model_room : Bool
      model_room = nat_lt (length s.instances) 65536 && nat_lt i.children (2 ^ 32 - 1)

      by_case : (room : Bool) → model_room ≡ room → step_in t ≡ if_room s (path_of t) m state.instances room after
          → TakenCell program b w.receiver → IsPlan t (made.if_room room kind.Instances m then_plan)
      by_case true e step there =
          let children : (node_of t).children ≡ i.children = (told t).children in
          let few = ltb-true i.children (2 ^ 32 - 1) (and_parts (nat_lt (length s.instances) 65536) (nat_lt i.children (2 ^ 32 - 1)) e).1 in
          let own : IsTrue (is_procedure (body_at program i.top.body).owner) = subst (λ c. IsTrue (is_procedure (body_at program c).owner)) a.body a.known.0 in
          record {
            taken = w.receiver;
            same =
                subst (λ c. Receives program c (slotted_receiver slots w.receiver) w.receiver) (a.body ∙ sym (procedure-is own))
                (receives taker callee es node a w.receiver w.takes there);
            takes = takes-from t.program callee (length es) w.values a.known.2.takes (values-count env es w.values w.values_are);
            procedure = ap is_inlet a.known.2.owner;
            named = callee-named t.program m node _ callee _ a.there a.action;
            room = omega (arith, children, few);
            step = step;
            next = a.goes tt (pos 1);
          }
      by_case false e step there = step

      by_room : (room : Bool) → model_room ≡ room → step_in t ≡ if_room s (path_of t) m state.instances model_room after → TakenCell program b w.receiver
          → IsPlan t (made.if_room (has_room (input_in t)) kind.Instances m then_plan)
      by_room room e step there =
          let same : has_room (input_in t) ≡ room = (λ j. nat_lt (sym asked.count j) 65536 && nat_lt ((told t).children j) (2 ^ 32 - 1)) ∙ e in
          subst (λ r. IsPlan t (made.if_room r kind.Instances m then_plan)) (sym same)
          (by_case room e (step ∙ ap (λ r. if_room s (path_of t) m state.instances r after) e) there)
