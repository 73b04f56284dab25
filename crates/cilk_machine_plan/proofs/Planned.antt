-- The plan of a step is the step.
use Rattle.std.proofs.Common.{◌≡◌, ℕ, Bool, true, false, not, ◌&&◌, ◌||◌, List, [], ◌∷◌, Some, Result, Ok, Err, refl, sym, ap, ◌∙◌, subst, if◌then◌else◌}
use Rattle.std.proofs.lemmas.Bool.{and_parts}
use Rattle.cilk_machine_agree.specs.model.declared.trap.Trap.{Trap}
use Rattle.cilk_machine_agree.specs.labelled.Value.{Environment}
use Rattle.cilk_machine_agree.specs.nodes.declared.slot.Slot.{Slot}
use Rattle.cilk_machine_agree.specs.labelled.Labelled.{Declaration, Labelled, Action, assign, call, spawn, print, locking, null, break_off, go_round}
use Rattle.cilk_machine_agree.specs.labelled.Labelled.{tests, sync, abort, return_with, return_nothing, close}
use Rattle.cilk_machine_agree.specs.labelled.Items.{head_of}
use Rattle.cilk_machine_agree.specs.labelled.Bodies.{label}
use Rattle.cilk_machine_agree.specs.model.Values.{environment}
use Rattle.cilk_machine_agree.specs.model.Instance as model
use Rattle.cilk_machine_agree.specs.model.Instance.{Instance}
use Rattle.cilk_machine_agree.specs.model.State as state
use Rattle.cilk_machine_agree.specs.model.State.{is_empty, store_of}
use Rattle.cilk_machine_agree.specs.model.Effect as effect
use Rattle.cilk_machine_agree.specs.model.Effect.{effect_of}
use Rattle.cilk_machine_agree.specs.model.Change as change
use Rattle.cilk_machine_agree.specs.model.Change.{leaves_function}
use Rattle.cilk_machine_agree.specs.model.Event.{ended}
use Rattle.cilk_machine_agree.specs.model.Pick.{Step, parks, ends, traps, step_by_effect, step_by_head, step_at_boundary, step_of_aborted}
use Rattle.cilk_machine_agree.specs.model.Pick.{step_of_instance, step_of_live}
use Rattle.cilk_machine_agree.specs.nodes.declared.node.Node.{Node}
use Rattle.cilk_machine_agree.specs.nodes.Actions.{slotted}
use Rattle.cilk_machine_agree.specs.nodes.Slots.{slot_of}
use Rattle.cilk_machine_agree.specs.nodes.Table as table
use Rattle.cilk_machine_agree.specs.nodes.Bodies.{body_of}
use Rattle.cilk_machine_agree.proofs.nodes_laws.Heads.{bodies-have}
use Rattle.cilk_eval.specs.effects.Effects.{effect_in}
use Rattle.cilk_eval.specs.effects.Slotted.{ReachesCells, slotted_effect, slotted_result}
use Rattle.cilk_eval.proofs.effects_laws.Same.{effect-same, effect-reaches}
use Rattle.cilk_eval.proofs.effects_laws.Shapes.{ShapeOf, shape}
use Rattle.cilk_eval.proofs.effects_laws.Shapes as shapes
use Rattle.cilk_machine_agree.specs.spawn.declared.delivery.Delivery.{Delivery}
use Rattle.cilk_machine_agree.specs.spawn.Nodes.{has_live_child, is_synched, path_at}
use Rattle.cilk_machine_agree.specs.Alike.{SameDeliveries}
use Rattle.cilk_machine_agree.specs.Laws.{InHand, path_of, node_of, instance_of}
use Rattle.cilk_machine_agree.specs.Asked.{Asked}
use Rattle.cilk_machine_agree.proofs.Actions.{told}
use Rattle.cilk_machine_agree.proofs.Asked.{oldest-told}
use Rattle.cilk_machine_agree.proofs.Alone.{holds}
use Rattle.cilk_machine_agree.specs.frame.declared.trap_kind.TrapKind.TheVariants as kind
use Rattle.cilk_machine_plan.specs.declared.plan.Plan.TheVariants as plan
use Rattle.cilk_machine_plan.specs.Made as made
use Rattle.cilk_machine_plan.specs.Made.{by_effect, planned, by_head, by_node, by_deliveries, acted, is_function_body}
use Rattle.cilk_machine_plan.specs.Plans.{input_in, step_in, IsPlan}
use Rattle.cilk_machine_plan.specs.StepInput.{StepInput, cells_in, holds_lock, is_outer, head_number}
use Rattle.cilk_machine_plan.proofs.Heads.{Sound, there, head-of, head, own_node, node-is, known, next-is}
use Rattle.cilk_machine_plan.proofs.Acts.{Acting, writes-plan, answers-plan, prints-plan, marks-plan, turns-lock-plan, calls-plan}
use Rattle.cilk_machine_plan.proofs.Births.{spawns-plan}
use Rattle.cilk_machine_plan.proofs.Gifts.{outer-is, input-seen, given-plan}
use Rattle.cilk_machine_plan.proofs.Deliveries.{delivery-plan}

-- what an action is does not depend on how its variables are named
pub leaves-same : (slots : Declaration → Slot) (act : Action) → made.leaves (slotted slots act) ≡ change.leaves act
leaves-same slots (assign what e) = refl
leaves-same slots (call what callee es) = refl
leaves-same slots (spawn taker callee es) = refl
leaves-same slots (print format es) = refl
leaves-same slots (locking what lock) = refl
leaves-same slots null = refl
leaves-same slots break_off = refl
leaves-same slots go_round = refl
leaves-same slots (tests e) = refl
leaves-same slots sync = refl
leaves-same slots abort = refl
leaves-same slots (return_with e) = refl
leaves-same slots return_nothing = refl
leaves-same slots close = refl

pub sync-same : (slots : Declaration → Slot) (act : Action) → made.is_sync (slotted slots act) ≡ change.is_sync act
sync-same slots (assign what e) = refl
sync-same slots (call what callee es) = refl
sync-same slots (spawn taker callee es) = refl
sync-same slots (print format es) = refl
sync-same slots (locking what lock) = refl
sync-same slots null = refl
sync-same slots break_off = refl
sync-same slots go_round = refl
sync-same slots (tests e) = refl
sync-same slots sync = refl
sync-same slots abort = refl
sync-same slots (return_with e) = refl
sync-same slots return_nothing = refl
sync-same slots close = refl

spawn-same : (slots : Declaration → Slot) (act : Action) → made.is_spawn (slotted slots act) ≡ change.is_spawn act
spawn-same slots (assign what e) = refl
spawn-same slots (call what callee es) = refl
spawn-same slots (spawn taker callee es) = refl
spawn-same slots (print format es) = refl
spawn-same slots (locking what lock) = refl
spawn-same slots null = refl
spawn-same slots break_off = refl
spawn-same slots go_round = refl
spawn-same slots (tests e) = refl
spawn-same slots sync = refl
spawn-same slots abort = refl
spawn-same slots (return_with e) = refl
spawn-same slots return_nothing = refl
spawn-same slots close = refl

-- what is not to wait has nothing to wait for
waits-none : (outer syncs leaves synched : Bool) → (outer && (syncs || leaves)) && not synched ≡ false → outer ≡ true → leaves ≡ true → synched ≡ true
waits-none outer syncs leaves true h o l = refl
waits-none true true leaves false h o l = cc
waits-none true false true false h o l = cc
waits-none true false false false h o l = cc
waits-none false syncs leaves false h o l = cc

module _ (t : InHand) (sound : Sound t.program) (asked : Asked t) where
  abbrev program : Labelled
  program = label t.program

  abbrev g : StepInput
  g = input_in t

  abbrev i : Instance
  i = instance_of t

  abbrev s : state.State
  s = t.at.state

  abbrev b : ℕ
  b = i.top.body

  abbrev m : ℕ
  m = (head t sound).number

  abbrev act : Action
  act = (head t sound).act

  abbrev node : Node
  node = own_node t sound

  abbrev slots : Declaration → Slot
  slots = slot_of program b

  abbrev env : Environment Declaration
  env = environment (store_of s (path_of t) i)

  abbrev step_is : Step → Type 0
  step_is x = step_in t ≡ x

  outer : is_outer g ≡ is_empty i.below
  outer = outer-is t

  function-is : is_function_body (body_of t.program b) ≡ leaves_function program i
  function-is = ap is_function_body (bodies-have t.program b (there t sound))

  childless-from : state.is_synched s (path_of t) i ≡ true → has_live_child t.machine.nodes t.frame.id ≡ false
  childless-from h = by_child (state.has_live_child s.instances (path_of t)) asked.childless h
    where
      by_child : (child : Bool) → child ≡ has_live_child t.machine.nodes t.frame.id → (not child && is_empty i.waiting) ≡ true
          → has_live_child t.machine.nodes t.frame.id ≡ false
      by_child true e k = cc
      by_child false e k = sym e

  effect-plan : (what : Action) → Acting t b m what node → change.waits_here i what && not (state.is_synched s (path_of t) i) ≡ false
      → (x : effect.Effect) → ShapeOf env m what x
      → ReachesCells program b x → step_is (step_by_effect program s (path_of t) i m (Ok x)) → IsPlan t (by_effect g m node (Ok (slotted_effect slots m x)))
  effect-plan (assign what e) a free x w reaches step = writes-plan t asked b m (assign what e) node a tt x w step reaches
  effect-plan (call what callee es) a free x w reaches step = calls-plan t asked b m what callee es node a x w step reaches
  effect-plan (spawn taker callee es) a free x w reaches step = spawns-plan t asked b m taker callee es node a x w step reaches
  effect-plan (print format es) a free x w reaches step = prints-plan t asked b m (print format es) node a tt x w step reaches
  effect-plan (locking what lock) a free x w reaches step = turns-lock-plan t asked b m (locking what lock) node a tt what lock x w step reaches
  effect-plan null a free x w reaches step = answers-plan t asked b m null node a tt x w step reaches
  effect-plan break_off a free x w reaches step = answers-plan t asked b m break_off node a tt x w step reaches
  effect-plan go_round a free x w reaches step = answers-plan t asked b m go_round node a tt x w step reaches
  effect-plan (tests e) a free x w reaches step = answers-plan t asked b m (tests e) node a tt x w step reaches
  effect-plan sync a free x w reaches step = answers-plan t asked b m sync node a tt x w step reaches
  effect-plan abort a free x w reaches step = marks-plan t asked b m abort node a tt x w step reaches
  effect-plan (return_with e) a free x w reaches step = by_gift (return_with e) free refl x w step
    where
      by_gift : (what : Action) → change.waits_here i what && not (state.is_synched s (path_of t) i) ≡ false → change.leaves what ≡ true
          → (x : effect.Effect) → shapes.Given x
          → step_is (step_by_effect program s (path_of t) i m (Ok x)) → IsPlan t (by_effect g m node (Ok (slotted_effect slots m x)))
      by_gift what free leaves x w step =
          subst (λ y. step_is (step_by_effect program s (path_of t) i m (Ok y)) → IsPlan t (by_effect g m node (Ok (slotted_effect slots m y)))) (sym w.is)
          (given-plan t asked m w.value node refl (λ alone. childless-from
          (waits-none (is_empty i.below) (change.is_sync what) (change.leaves what) (state.is_synched s (path_of t) i) free alone leaves)))
          step
  effect-plan return_nothing a free x w reaches step =
      subst (λ y. step_is (step_by_effect program s (path_of t) i m (Ok y)) → IsPlan t (by_effect g m node (Ok (slotted_effect slots m y)))) (sym w.is)
      (given-plan t asked m w.value node refl (λ alone. childless-from
      (waits-none (is_empty i.below) false true (state.is_synched s (path_of t) i) free alone refl))) step
  effect-plan close a free x w reaches step =
      subst (λ y. step_is (step_by_effect program s (path_of t) i m (Ok y)) → IsPlan t (by_effect g m node (Ok (slotted_effect slots m y)))) (sym w.is)
      (given-plan t asked m w.value node refl (λ alone. childless-from
      (waits-none (is_empty i.below) false true (state.is_synched s (path_of t) i) free alone refl))) step

  acting : Acting t b m act node
  acting = record { body = refl; known = known t sound; there = node-is t sound; action = refl; node_body = refl; goes = next-is t sound }

  result-plan : (r : Result effect.Effect Trap) → effect_of env m act ≡ r → change.waits_here i act && not (state.is_synched s (path_of t) i) ≡ false
      → step_is (step_by_effect program s (path_of t) i m r) → IsPlan t (by_effect g m node (slotted_result slots m r))
  result-plan (Err trap) e free step = step
  result-plan (Ok x) e free step =
      effect-plan act acting free x (shape env m act x e)
      (effect-reaches program b (cells_in g) (store_of s (path_of t) i) (input-seen t asked t.frame i (holds t).stands refl refl) m act x
      (known t sound) e) step

  same-effect : effect_in (cells_in g) m node.action ≡ slotted_result slots m (effect_of env m act)
  same-effect = effect-same program b (cells_in g) (store_of s (path_of t) i) (input-seen t asked t.frame i (holds t).stands refl refl) m act (known t sound)

  waits-same : made.waits_here g node ≡ change.waits_here i act
  waits-same = λ j. outer j && (sync-same slots act j || leaves-same slots act j)

  ends-same : made.ends_thread g node ≡ change.ends_thread program i act
  ends-same = λ j. sync-same slots act j || (spawn-same slots act j || (leaves-same slots act j && (outer j || not (function-is j))))

  -- the head is acted
  acted-plan : step_is (step_by_head program s (path_of t) i (Some (head t sound))) → IsPlan t (acted g m node)
  acted-plan step = by_lock (change.ends_thread program i act && change.holds_lock s (path_of t)) refl
    where
      effect_step : Step
      effect_step = step_by_effect program s (path_of t) i m (effect_of env m act)

      waiting_step : Bool → Step
      waiting_step waits = if waits then parks else effect_step

      waiting_plan : Bool → Rattle.cilk_machine_plan.specs.declared.plan.Plan.Plan
      waiting_plan waits = if waits then plan.Park else by_effect g m node (effect_in (cells_in g) m node.action)

      lock-same : made.ends_thread g node && holds_lock g ≡ change.ends_thread program i act && change.holds_lock s (path_of t)
      lock-same = λ j. ends-same j && sym asked.holds j

      wait-same : made.waits_here g node && not (is_synched t.machine.nodes t.frame.id) ≡ change.waits_here i act && not (state.is_synched s (path_of t) i)
      wait-same = λ j. waits-same j && not (sym asked.synched j)

      by_wait : (waits : Bool) → change.waits_here i act && not (state.is_synched s (path_of t) i) ≡ waits → step_is (waiting_step waits)
          → IsPlan t (waiting_plan waits)
      by_wait true e k = k
      by_wait false e k = subst (λ r. IsPlan t (by_effect g m node r)) (sym same-effect) (result-plan (effect_of env m act) refl e k)

      by_lock : (holds : Bool) → change.ends_thread program i act && change.holds_lock s (path_of t) ≡ holds → IsPlan t (acted g m node)
      by_lock true e =
          subst
          (λ x. IsPlan t (if x then made.traps kind.HeldLock m else waiting_plan
          (made.waits_here g node && not (is_synched t.machine.nodes t.frame.id)))) (sym (lock-same ∙ e))
          (step
          ∙ ap (λ x. if x then traps s (path_of t) m state.held_lock else waiting_step
          (change.waits_here i act && not (state.is_synched s (path_of t) i))) e)
      by_lock false e =
          let here : step_is (waiting_step (change.waits_here i act && not (state.is_synched s (path_of t) i))) =
          step
          ∙ ap
          (λ x. if x then traps s (path_of t) m state.held_lock else waiting_step
          (change.waits_here i act && not (state.is_synched s (path_of t) i))) e in
          subst
          (λ x. IsPlan t (if x then made.traps kind.HeldLock m else waiting_plan
          (made.waits_here g node && not (is_synched t.machine.nodes t.frame.id)))) (sym (lock-same ∙ e))
          (subst (λ x. IsPlan t (waiting_plan x)) (sym wait-same) (by_wait _ refl here))

  -- at a boundary the oldest delivery comes first
  deliveries-plan : (ds : List Delivery) (es : List model.Delivery) → i.waiting ≡ es → (node_of t).waiting ≡ ds
      → SameDeliveries program (path_at t.machine.nodes) (node_of t).procedure ds es → i.below ≡ [] → step_is (step_at_boundary program s (path_of t) i es)
      → IsPlan t (by_deliveries g m node ds)
  deliveries-plan [] [] e from h alone step = acted-plan (step ∙ ap (step_by_head program s (path_of t) i) (head-of t sound).is)
  deliveries-plan [] (e ∷ es) is from h alone step = absurd h
  deliveries-plan (d ∷ ds) [] is from h alone step = absurd h
  deliveries-plan (d ∷ ds) (e ∷ es) is from (first, others) alone step =
      delivery-plan t asked d e es is (oldest-told t d ds from).within first alone step

  empty-none : (ms : List model.Activation) → is_empty ms ≡ true → ms ≡ []
  empty-none [] h = refl
  empty-none (x ∷ ms) h = cc

  boundary-same : made.at_boundary g node ≡ change.at_boundary i
  boundary-same =
      (λ j. outer j && ((holds t).stands.flag j || (sync-same slots act j || leaves-same slots act j)))
      ∙ by_outer (is_empty i.below) (change.is_sync act || change.leaves act)
      ∙ ap (λ o. is_empty i.below && (i.spawned || change.head_waits i o)) (sym (head-of t sound).is)
    where
      by_outer : (alone waits : Bool) → (alone && (i.spawned || waits)) ≡ (alone && (i.spawned || (alone && waits)))
      by_outer true waits = refl
      by_outer false waits = refl

  node-plan : step_is
      (if change.at_boundary i then step_at_boundary program s (path_of t) i i.waiting else step_by_head program s (path_of t) i
      (head_of i.top.items)) → IsPlan t (by_node g m node)
  node-plan step = by_boundary (change.at_boundary i) refl
    where
      by_boundary : (boundary : Bool) → change.at_boundary i ≡ boundary → IsPlan t (by_node g m node)
      by_boundary true e =
          subst (λ x. IsPlan t (if x then by_deliveries g m node (node_of t).waiting else acted g m node)) (sym (boundary-same ∙ e))
          (deliveries-plan (node_of t).waiting i.waiting refl refl (told t).waiting (empty-none i.below (and_parts (is_empty i.below) _ e).0)
          (step ∙ ap (λ x. if x then step_at_boundary program s (path_of t) i i.waiting else step_by_head program s (path_of t) i (head_of i.top.items)) e))
      by_boundary false e =
          subst (λ x. IsPlan t (if x then by_deliveries g m node (node_of t).waiting else acted g m node)) (sym (boundary-same ∙ e))
          (acted-plan
          (step ∙ ap (λ x. if x then step_at_boundary program s (path_of t) i i.waiting else step_by_head program s (path_of t) i (head_of i.top.items)) e
          ∙ ap (step_by_head program s (path_of t) i) (head-of t sound).is))

  aborted-plan : step_is (step_of_aborted s (path_of t)) → IsPlan t (made.aborted g)
  aborted-plan step =
      by_child (has_live_child t.machine.nodes t.frame.id) refl
      (step ∙ ap (λ x. if x then parks else ends (change.after_abort s (path_of t)) (ended (path_of t))) asked.childless)
    where
      by_child : (child : Bool) → has_live_child t.machine.nodes t.frame.id ≡ child
          → step_is (if child then parks else ends (change.after_abort s (path_of t)) (ended (path_of t)))
          → IsPlan t (if child then plan.Park else plan.End)
      by_child true e k = k
      by_child false e k = record { step = k; childless = e }

  pub plan-is : IsPlan t (planned g)
  plan-is = by_mark i.aborted refl
    where
      step : step_is (step_of_instance program s (path_of t) i)
      step = ap (step_of_live program s (path_of t)) asked.there

      at_head : IsPlan t (by_node g m node) → IsPlan t (by_head g (head_number g) (table.node_of t.program (head_number g)))
      at_head h =
          subst (λ n. IsPlan t (by_head g n (table.node_of t.program n))) (head-of t sound).number
          (subst (λ o. IsPlan t (by_head g m o)) (sym (node-is t sound)) h)

      live_step : Step
      live_step =
          if change.at_boundary i then step_at_boundary program s (path_of t) i i.waiting else step_by_head program s (path_of t) i
          (head_of i.top.items)

      by_mark : (marked : Bool) → i.aborted ≡ marked → IsPlan t (planned g)
      by_mark true e =
          subst (λ x. IsPlan t (if x then made.aborted g else by_head g (head_number g) (table.node_of t.program (head_number g)))) (sym ((told t).aborted ∙ e))
          (aborted-plan (step ∙ ap (λ x. if x then step_of_aborted s (path_of t) else live_step) e))
      by_mark false e =
          subst (λ x. IsPlan t (if x then made.aborted g else by_head g (head_number g) (table.node_of t.program (head_number g)))) (sym ((told t).aborted ∙ e))
          (at_head (node-plan (step ∙ ap (λ x. if x then step_of_aborted s (path_of t) else live_step) e)))
