-- What a scene shows as private is so in the definition of runs.
use Rattle.std.proofs.Common.{◌≡◌, ℕ, zero, suc, ◌+◌, ◌<◌, Bool, true, false, not, ◌&&◌, ◌||◌, List, [], ◌∷◌, length, Option, Some, None, refl, sym, ap, ◌∙◌}
use Rattle.std.proofs.Common.{arith, ◌⊎◌, inl, inr, ℤ, Bor, Result, Ok, Err, IfOk, if◌then◌else◌}
use Rattle.cilk_load.specs.labelled.Term.{Term, number, variable, element, synched, unary, binary, choose, rename}
use Rattle.cilk_load.specs.labelled.Labelled as labelled
use Rattle.cilk_load.specs.labelled.Labelled.{Labelled, Declaration, local, outer, global, of_lock, of_body, unknown, Variable}
use Rattle.cilk_load.specs.labelled.Labelled.{Action, assign, call, spawn, print, locking, null, break_off, go_round, tests, sync, abort}
use Rattle.cilk_load.specs.labelled.Labelled.{return_with, return_nothing, close}
use Rattle.cilk_load.specs.labelled.Bodies.{label}
use Rattle.cilk_machine_plan.specs.nodes.declared.area.Area.TheVariants.{Own, Outer, Global}
use Rattle.cilk_machine_plan.specs.nodes.declared.slot.Slot.{Slot}
use Rattle.cilk_machine_plan.specs.syntax.Tree.{Program}
use Rattle.cilk_machine_plan.specs.model.Values.{Reached}
use Rattle.cilk_machine_plan.specs.model.Instance.{Instance, body_at}
use Rattle.cilk_machine_plan.specs.model.State.{is_empty}
use Rattle.cilk_machine_plan.specs.model.Change as change
use Rattle.cilk_machine_plan.specs.model.Pick.{Step}
use Rattle.cilk_machine_plan.specs.model.Run.{event_of_step}
use Rattle.cilk_machine_plan.specs.nodes.declared.node.Node.{Node}
use Rattle.cilk_machine_plan.specs.nodes.declared.action.Action as slots
use Rattle.cilk_machine_plan.specs.nodes.Actions.{slotted_place, slotted}
use Rattle.cilk_machine_plan.specs.nodes.Slots.{size_of, slot_from, procedure_around, slot_of}
use Rattle.cilk_machine_plan.specs.nodes.Table.{node_of}
use Rattle.cilk_machine_plan.specs.frame.declared.awaited.Await.{Await}
use Rattle.cilk_machine_plan.specs.frame.Frames.{top_of}
use Rattle.cilk_machine_plan.specs.frame.Reads.{IsVariable, IsKnown}
use Rattle.cilk_machine_plan.specs.frame.Stands.{AwaitsSame, AwaitsAt, bodies_of}
use Rattle.cilk_machine_plan.specs.effects.Known.{KnownTarget, KnownAct}
use Rattle.cilk_machine_plan.proofs.frame_laws.Values.{array-declared}
use Rattle.cilk_machine_plan.proofs.frame_laws.Steps.{awaits-same}
use Rattle.cilk_machine_plan.specs.agree.Laws.{InHand, instance_of}
use Rattle.cilk_machine_plan.specs.agree.Asked.{Asked}
use Rattle.cilk_machine_plan.specs.declared.plan.Plan.{Plan}
use Rattle.cilk_machine_plan.specs.declared.plan.Plan.TheVariants as plan
use Rattle.cilk_machine_plan.specs.Made as made
use Rattle.cilk_machine_plan.specs.Made.{planned, acted, takes_by, taken_by, target_of_node, target_of_action}
use Rattle.cilk_machine_plan.specs.Plans.{input_in, step_in, IsPlan}
use Rattle.cilk_machine_plan.specs.StepInput.{StepInput, id_of, head_number, cells_in}
use Rattle.cilk_machine_plan.proofs.Gifts.{outer-is}
use Rattle.cilk_machine_plan.proofs.Heads.{Sound, stands, head-of, head, own_node, node-is, known}
use Rattle.cilk_machine_plan.proofs.Planned.{leaves-same, sync-same, plan-is}
use Rattle.cilk_machine_step.proofs.Acts.{cell-declared}
use Rattle.cilk_load.specs.model.declared.trap.Trap.{Trap}
use Rattle.cilk_machine_plan.specs.nodes.Areas.{slot_cell}
use Rattle.cilk_machine_plan.specs.model.Values.{combined}
use Rattle.cilk_machine_plan.specs.eval.declared.reached.Reached as code
use Rattle.cilk_machine_plan.specs.spawn.Nodes.{has_live_child}
use Rattle.cilk_machine_plan.specs.spawn.declared.delivery.Delivery as code_delivery
use Rattle.cilk_machine_plan.specs.frame.declared.receiver.Receiver.{Receiver}
use Rattle.cilk_machine_plan.specs.frame.declared.receiver.Receiver.TheVariants as receiver
use Rattle.cilk_machine_step.specs.declared.coming.Coming.{Coming}
use Rattle.cilk_machine_step.specs.declared.coming.Coming.TheVariants.{End, Nothing, Delivery}
use Rattle.cilk_machine_step.specs.Comings.{plan_for}
use Rattle.cilk_machine_step.specs.Private as private
use Rattle.cilk_machine_step.specs.Private.{owns, is_acted}
use Rattle.cilk_machine_step.specs.Owned as owned
use Rattle.cilk_machine_step.specs.Owned.{is_acting}

and_true : (b : Bool) → (b && true) ≡ b
and_true true = refl
and_true false = refl

-- the slots of an area
own_slot : (variables : List Variable) (n at : ℕ) → n < length variables → owned.is_own (slot_from Own at variables n) ≡ true
own_slot [] n at h = absurd (omega (arith, h))
own_slot (v ∷ variables) zero at h = refl
own_slot (v ∷ variables) (suc n) at h = own_slot variables n (at + size_of v) (omega (arith, h))

outer_slot : (variables : List Variable) (n at : ℕ) → n < length variables → owned.is_own (slot_from Outer at variables n) ≡ true
outer_slot [] n at h = absurd (omega (arith, h))
outer_slot (v ∷ variables) zero at h = refl
outer_slot (v ∷ variables) (suc n) at h = outer_slot variables n (at + size_of v) (omega (arith, h))

global_slot : (variables : List Variable) (n at : ℕ) → owned.is_own (slot_from Global at variables n) ≡ false
global_slot [] n at = refl
global_slot (v ∷ variables) zero at = refl
global_slot (v ∷ variables) (suc n) at = global_slot variables n (at + size_of v)

module _ (program : Labelled) (b : ℕ) where
  abbrev slots_of : Declaration → Slot
  slots_of = slot_of program b

  own-is : (d : Declaration) → IsVariable program b d → owned.is_own (slots_of d) ≡ private.is_own d
  own-is (local n) h = own_slot (body_at program b).variables n 0 h
  own-is (outer n) (inlet, h) = outer_slot (body_at program (procedure_around program b)).variables n 0 h
  own-is (global n) h = global_slot program.globals n 0
  own-is (of_lock n) h = absurd h
  own-is (of_body n) h = absurd h
  own-is unknown h = absurd h

  owns-is : (t : Term Declaration) → IsKnown program b t → owns owned.is_own (rename slots_of t) ≡ owns private.is_own t
  owns-is (number n) h = refl
  owns-is (variable d) h = own-is d h
  owns-is (element d t) (array, h) = λ j. own-is d (array-declared program b d array) j && owns-is t h j
  owns-is synched h = refl
  owns-is (unary op t) h = owns-is t h
  owns-is (binary op t u) (h, k) = λ j. owns-is t h j && owns-is u k j
  owns-is (choose t u v) (h, k, l) = λ j. owns-is t h j && (owns-is u k j && owns-is v l j)

  place-is : (t : labelled.Target) → KnownTarget program b t → owned.owns_place (slotted_place slots_of t) ≡ private.owns_target t
  place-is (labelled.variable d) h = and_true (owned.is_own (slots_of d)) ∙ own-is d h
  place-is (labelled.element d t) (array, h) = λ j. own-is d (array-declared program b d array) j && owns-is t h j

  act-is : (act : Action) → KnownAct program b act → owned.owns_act (slotted slots_of act) ≡ private.owns_act act
  act-is (assign place value) (h, k) = λ j. place-is place.target h j && owns-is value k j
  act-is (call place callee arguments) h = refl
  act-is (spawn taker callee arguments) h = refl
  act-is (print format arguments) h = refl
  act-is (locking what lock) h = refl
  act-is null h = refl
  act-is break_off h = refl
  act-is go_round h = refl
  act-is (tests value) h = owns-is value h
  act-is sync h = refl
  act-is abort h = refl
  act-is (return_with value) (h, k) = owns-is value k
  act-is return_nothing h = refl
  act-is close h = refl

awaited-at : (p : Program) (b : ℕ) (w : Await) (r : Reached) → AwaitsAt (label p) b w r → owned.owns_awaited p (Some w) ≡ private.owns_awaited (Some r)
awaited-at p b w r h =
    ap (λ (o : Option Node). owned.owns_target (target_of_node o)) h.there
    ∙ ap (λ (a : slots.Action). owned.owns_target (target_of_action a)) h.calls
    ∙ ap owned.is_own h.same.slot_is
    ∙ own-is (label p) b r.cell.place (cell-declared (label p) b r.cell.place r.cell.index h.same.there)

awaited-is : (p : Program) (o : Option Await) (q : Option Reached) (bodies : List ℕ) → AwaitsSame (label p) o q bodies
    → owned.owns_awaited p o ≡ private.owns_awaited q
awaited-is p None None bodies h = refl
awaited-is p None (Some r) bodies h = absurd h
awaited-is p (Some w) None bodies h = absurd h
awaited-is p (Some w) (Some r) [] h = absurd h
awaited-is p (Some w) (Some r) (b ∷ bodies) h = awaited-at p b w r h

abbrev told : Step → Bool
told s = is_acted (event_of_step s)

-- an action is acted where the plan says so, and nowhere else
acted-is : (t : InHand) (x : Plan) → IsPlan t x → is_acting x ≡ is_acted (event_of_step (step_in t))
acted-is t x h = sym (by_plan x h)
  where
    by_plan : (x : Plan) → IsPlan t x → told (step_in t) ≡ is_acting x
    by_plan plan.Wait h = ap told h
    by_plan plan.Park h = ap told h
    by_plan plan.End h = ap told h.step
    by_plan (plan.Trap kind n) h = ap told h
    by_plan (plan.Take child n reached z) h = ap told h.step
    by_plan (plan.Enter child n inlet arguments) h = ap told h.step
    by_plan (plan.Go n to) h = ap told h.step
    by_plan (plan.Write n reached z to) h = ap told h.step
    by_plan (plan.Call n awaits callee arguments to) h = ap told h.step
    by_plan (plan.Leave n) h = ap told h.step
    by_plan (plan.Answer n reached z) h = ap told h.step
    by_plan (plan.Return n z) h = ap told h.step
    by_plan (plan.Spawn n receiver callee arguments to) h = ap told h.step
    by_plan (plan.Print n bytes to) h = ap told h.step
    by_plan (plan.TurnLock n lock now to) h = ap told h.step
    by_plan (plan.Abort n to) h = ap told h.step

module _ (t : InHand) (sound : Sound t.program) where
  abbrev i : Instance
  i = instance_of t

  abbrev act : Action
  act = (head t sound).act

  abbrev name : Declaration → Slot
  name = slot_of (label t.program) i.top.body

  boundary-is : made.at_boundary (input_in t) (own_node t sound) ≡ change.at_boundary i
  boundary-is =
      (λ j. outer-is t j && ((stands t sound).flag j || (sync-same name act j || leaves-same name act j)))
      ∙ by_outer (is_empty i.below) (change.is_sync act || change.leaves act)
      ∙ ap (λ o. is_empty i.below && (i.spawned || change.head_waits i o)) (sym (head-of t sound).is)
    where
      by_outer : (alone waits : Bool) → (alone && (i.spawned || waits)) ≡ (alone && (i.spawned || (alone && waits)))
      by_outer true waits = refl
      by_outer false waits = refl

  waiting-is : owned.owns_awaited t.program (top_of t.frame).awaits ≡ private.owns_awaited i.top.awaits
  waiting-is =
      awaited-is t.program (top_of t.frame).awaits i.top.awaits (bodies_of i.below) (awaits-same (label t.program) t.frame i (stands t sound))

  owned-is : owned.owns_next (input_in t) (node_of t.program (head_number (input_in t))) ≡ private.owns_live (Some i)
  owned-is =
      ap (owned.owns_next (input_in t)) (ap (node_of t.program) (sym (head-of t sound).number) ∙ node-is t sound)
      ∙ (λ j. not (boundary-is j)
      && (act-is (label t.program) i.top.body act (known t sound) j && (not (leaves-same name act j) || waiting-is j)))
      ∙ ap (λ o. not (change.at_boundary i) && private.owns_head i o) (sym (head-of t sound).is)

  -- the step that a scene shows is private where that of the instance is
  pub private-is : Asked t → owned.is_private (input_in t) ≡ (private.owns_live (Some i) && is_acted (event_of_step (step_in t)))
  private-is asked = λ j. owned-is j && acted-is t (planned (input_in t)) (plan-is t sound asked) j

-- what comes next is no action
and_false : (b : Bool) → (b && false) ≡ false
and_false true = refl
and_false false = refl

not_acting : (g : StepInput) (x : Plan) → x ≡ planned g → is_acting x ≡ false → false ≡ owned.is_private g
not_acting g x is none =
    let owns_it = owned.owns_next g (node_of g.program (head_number g)) in
    sym (ap (λ (p : Plan). owns_it && is_acting p) (sym is) ∙ ap (λ b. owns_it && b) none ∙ and_false owns_it)

ends_or_parks : (b : Bool) → is_acting (if b then plan.Park else plan.End) ≡ false
ends_or_parks true = refl
ends_or_parks false = refl

takes : (n child : ℕ) (reached : code.Reached) (r : Result ℤ Trap) → is_acting (takes_by n r (λ y. plan.Take child n reached y)) ≡ false
takes n child reached (Ok z) = refl
takes n child reached (Err trap) = refl

taken_idle : (g : StepInput) (child : ℕ) (z : ℤ) (r : Receiver) → is_acting (taken_by g child z r) ≡ false
taken_idle g child z receiver.Nothing = refl
taken_idle g child z (receiver.Place op slot index n) =
    takes n child (record { slot = slot; index = index }) (combined op (slot_cell (cells_in g) slot index) z)
taken_idle g child z (receiver.Call n others) = refl

end_idle : (g : StepInput) (x : Coming) → x ≡ End → plan_for g x ≡ planned g → false ≡ owned.is_private g
end_idle g x is made =
    not_acting g (plan_for g x) made (ap (λ (y : Coming). is_acting (plan_for g y)) is ∙ ends_or_parks (has_live_child g.nodes (id_of g)))

nothing_idle : (g : StepInput) (x : Coming) → x ≡ Nothing → plan_for g x ≡ planned g → false ≡ owned.is_private g
nothing_idle g x is made = not_acting g (plan_for g x) made (ap (λ (y : Coming). is_acting (plan_for g y)) is)

delivery_idle : (g : StepInput) (x : Coming) (d : Bor code_delivery.Delivery) → x ≡ Delivery d → plan_for g x ≡ planned g → false ≡ owned.is_private g
delivery_idle g x d is made =
    not_acting g (plan_for g x) made
    (ap (λ (y : Coming). is_acting (plan_for g y)) is ∙ taken_idle g d.now.child d.now.value d.now.receiver)

pub idle : (g : StepInput) (x : Coming) → (x ≡ End) ⊎ ((x ≡ Nothing) ⊎ ((d : Bor code_delivery.Delivery) × (x ≡ Delivery d)))
    → plan_for g x ≡ planned g → false ≡ owned.is_private g
idle g x (inl is) made = end_idle g x is made
idle g x (inr (inl is)) made = nothing_idle g x is made
idle g x (inr (inr (d, is))) made = delivery_idle g x d is made

-- or it is
pub act-private : {E : Type 0} (g : StepInput) (n : ℕ) (node : Node) (r : Result Bool E) → node_of g.program (head_number g) ≡ Some node
    → acted g n node ≡ planned g → IfOk r (λ b. b ≡ (owned.owns_node g node && is_acting (acted g n node))) → IfOk r (λ b. b ≡ owned.is_private g)
act-private g n node (Ok b) is made h = h ∙ (λ i. owned.owns_next g (sym is i) && is_acting (made i))
act-private g n node (Err e) is made h = tt
