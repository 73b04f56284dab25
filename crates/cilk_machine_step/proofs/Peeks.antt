-- A step whose expression is evaluated beforehand.
use Rattle.std.proofs.Common.{◌≡◌, ℕ, ℤ, Bool, true, false, not, ◌&&◌, ◌||◌, Option, Some, None, Result, Ok, Err, refl, sym, ap, ◌∙◌, subst, if◌then◌else◌}
use Rattle.std.proofs.lemmas.Option.{same_Some}
use Rattle.std.specs.Prelude.{is_some, option_map, slice_get}
use Rattle.cilk_load.specs.model.declared.trap.Trap.{Trap}
use Rattle.cilk_load.specs.labelled.Term.{Term}
use Rattle.cilk_load.specs.labelled.Value.{value_of, ◌>>=◌}
use Rattle.cilk_machine_plan.specs.nodes.declared.slot.Slot.{Slot}
use Rattle.cilk_machine_plan.specs.eval.Known.{known, known_of}
use Rattle.cilk_machine_plan.specs.nodes.Reads.{is_plain}
use Rattle.cilk_machine_plan.proofs.eval_laws.KnownLaws.{plain-value}
use Rattle.cilk_machine_plan.specs.nodes.Areas.{Cells, Sizes, SlotsLieWithin, environment, slot_cell, sizes_of}
use Rattle.cilk_machine_plan.specs.model.Values.{combined}
use Rattle.cilk_machine_plan.specs.nodes.declared.action.Action.{Action}
use Rattle.cilk_machine_plan.specs.nodes.declared.action.Action.TheVariants.{Assign, Call, Spawn, Print, Locking, Null, Break, Continue, Test, Sync}
use Rattle.cilk_machine_plan.specs.nodes.declared.action.Action.TheVariants.{Abort, Return, ReturnNothing, Close}
use Rattle.cilk_machine_plan.specs.nodes.declared.node.Node.{Node}
use Rattle.cilk_machine_plan.specs.nodes.declared.target.Target.{Target}
use Rattle.cilk_machine_plan.specs.nodes.Table.{node_of}
use Rattle.cilk_machine_plan.specs.nodes.Bodies.{body_of}
use Rattle.cilk_machine_plan.specs.spawn.Nodes.{is_synched}
use Rattle.cilk_machine_plan.specs.frame.declared.trap_kind.TrapKind.TheVariants as kind
use Rattle.cilk_machine_plan.specs.eval.declared.effect.Effect.TheVariants.{Writes}
use Rattle.cilk_machine_plan.specs.effects.Effects.{effect_in, subscript_of}
use Rattle.cilk_machine_plan.specs.effects.Fits.{FitsAct}
use Rattle.cilk_machine_plan.specs.Made.{traps, by_effect, acted, planned, at_boundary, ends_thread, is_sync, is_spawn, leaves, is_function_body}
use Rattle.cilk_machine_plan.specs.StepInput.{StepInput, id_of, own_node, head_number, cells_in, holds_lock, is_outer}
use Rattle.cilk_machine_step.specs.Peeks.{Peek, plain, code_of, is_delayed, code_ahead, code_in, peek_by, peek_in, effect_by}
use Rattle.cilk_machine_step.proofs.Ways.{acts_by, inner-way, free-way}

plain_is : (t code : Term Slot) (b : Bool) → is_plain t ≡ b → (if b then Some t else None) ≡ Some code → (t ≡ code) × (is_plain code ≡ true)
plain_is t code true is h =
    let same : t ≡ code = cc in
    (same, subst (λ (u : Term Slot). is_plain u ≡ true) same is)
plain_is t code false is h = cc

plain-is : (t code : Term Slot) → plain t ≡ Some code → (t ≡ code) × (is_plain code ≡ true)
plain-is t code h = plain_is t code (is_plain t) refl h

-- an action with such an expression
record Evaluates (cells : Cells) (sizes : Sizes) (n : ℕ) (act : Action) (code : Term Slot) : Type 0 where
  is_plain_code : is_plain code ≡ true
  no_sync : is_sync act ≡ false
  no_spawn : is_spawn act ≡ false
  stays : leaves act ≡ false
  effect : effect_in cells n act ≡ effect_by cells act (value_of (environment cells) code)
  fits : FitsAct sizes act → SlotsLieWithin sizes code

assign_by : (cells : Cells) (n : ℕ) (target : Target) (t code : Term Slot) (o : Option (Term Slot)) → target.place.subscript ≡ o
    → (if is_some o then None else plain t) ≡ Some code → (t ≡ code) × ((is_plain code ≡ true) × (o ≡ None))
assign_by cells n target t code None is h = let p = plain-is t code h in (p.0, (p.1, refl))
assign_by cells n target t code (Some s) is h = cc

evaluates : (cells : Cells) (sizes : Sizes) (n : ℕ) (act : Action) (code : Term Slot) → code_of act ≡ Some code → Evaluates cells sizes n act code
evaluates cells sizes n (Assign target t) code h =
    let p = assign_by cells n target t code target.place.subscript refl h in
    record {
      is_plain_code = p.1.0;
      no_sync = refl;
      no_spawn = refl;
      stays = refl;
      effect =
          ap (λ (o : Option (Term Slot)). subscript_of cells target.place.slot.length o >>= λ k. value_of (environment cells) t
          >>= λ z. combined target.op (slot_cell cells target.place.slot k) z >>= λ y. Ok (Writes (record { slot = target.place.slot; index = k }) y)) p.1.1
          ∙ ap (λ (u : Term Slot). effect_by cells (Assign target t) (value_of (environment cells) u)) p.0;
      fits = λ f. subst (SlotsLieWithin sizes) p.0 f.1;
    }
evaluates cells sizes n (Test t) code h =
    let p = plain-is t code h in
    record {
      is_plain_code = p.1;
      no_sync = refl;
      no_spawn = refl;
      stays = refl;
      effect = ap (λ (u : Term Slot). effect_by cells (Test t) (value_of (environment cells) u)) p.0;
      fits = λ f. subst (SlotsLieWithin sizes) p.0 f;
    }
evaluates cells sizes n (Call target callee codes) code h = cc
evaluates cells sizes n (Spawn taker callee codes) code h = cc
evaluates cells sizes n (Print format codes) code h = cc
evaluates cells sizes n (Locking what lock) code h = cc
evaluates cells sizes n Null code h = cc
evaluates cells sizes n Break code h = cc
evaluates cells sizes n Continue code h = cc
evaluates cells sizes n Sync code h = cc
evaluates cells sizes n Abort code h = cc
evaluates cells sizes n (Return t) code h = cc
evaluates cells sizes n ReturnNothing code h = cc
evaluates cells sizes n Close code h = cc

-- an instance that lives on, before an action with such an expression, and before no delivery
pub record Ahead (g : StepInput) (code : Term Slot) : Type 0 where
  pub node : Node
  pub live : (own_node g).aborted ≡ false
  pub is : node_of g.program (head_number g) ≡ Some node
  pub free : is_delayed g node ≡ false
  pub code_is : code_of node.action ≡ Some code

delayed_by : (g : StepInput) (code : Term Slot) (node : Node) (b : Bool) → (own_node g).aborted ≡ false → node_of g.program (head_number g) ≡ Some node
    → is_delayed g node ≡ b → (if b then None else code_of node.action) ≡ Some code → Ahead g code
delayed_by g code node true live is delayed h = cc
delayed_by g code node false live is free h = record { node = node; live = live; is = is; free = free; code_is = h }

head_by : (g : StepInput) (code : Term Slot) (o : Option Node) → (own_node g).aborted ≡ false → node_of g.program (head_number g) ≡ o
    → code_ahead g o ≡ Some code → Ahead g code
head_by g code None live is h = cc
head_by g code (Some node) live is h = delayed_by g code node (is_delayed g node) live is refl h

live_by : (g : StepInput) (code : Term Slot) (b : Bool) → (own_node g).aborted ≡ b
    → (if b then None else code_ahead g (node_of g.program (head_number g))) ≡ Some code → Ahead g code
live_by g code true aborted h = cc
live_by g code false live h = head_by g code (node_of g.program (head_number g)) live refl h

ahead : (g : StepInput) (code : Term Slot) → code_in g ≡ Some code → Ahead g code
ahead g code h = live_by g code (own_node g).aborted refl h

none_by : {A : Type 0} (o : Option A) → is_some o ≡ false → o ≡ None
none_by None h = refl
none_by (Some a) h = cc

acted_by : (g : StepInput) (code : Term Slot) (a : Ahead g code) (b : Bool) → at_boundary g a.node ≡ b
    → (b && is_some (slice_get (own_node g).waiting 0)) ≡ false → planned g ≡ acted g (head_number g) a.node
acted_by g code a true at h = free-way g (head_number g) refl a.live a.node (sym a.is) at (none_by (slice_get (own_node g).waiting 0) h)
acted_by g code a false at h = inner-way g (head_number g) refl a.live a.node (sym a.is) at

module _ (g : StepInput) (code : Term Slot) (h : code_in g ≡ Some code) where
  pub it : Ahead g code
  it = ahead g code h

  there : Evaluates (cells_in g) (sizes_of (cells_in g)) (head_number g) it.node.action code
  there = evaluates (cells_in g) (sizes_of (cells_in g)) (head_number g) it.node.action code it.code_is

  no_end : (ends_thread g it.node && holds_lock g) ≡ false
  no_end =
      ap
      (λ (b : Bool).
      (b || (is_spawn it.node.action || (leaves it.node.action && (is_outer g || not (is_function_body (body_of g.program it.node.body))))))
      && holds_lock g) there.no_sync
      ∙ ap
      (λ (b : Bool). (b || (leaves it.node.action && (is_outer g || not (is_function_body (body_of g.program it.node.body)))))
      && holds_lock g) there.no_spawn
      ∙ ap (λ (b : Bool). (b && (is_outer g || not (is_function_body (body_of g.program it.node.body)))) && holds_lock g) there.stays

  no_wait : (a b c d : Bool) → b ≡ false → c ≡ false → ((a && (b || c)) && d) ≡ false
  no_wait true b c d x y = ap (λ (e : Bool). (e || c) && d) x ∙ ap (λ (e : Bool). e && d) y
  no_wait false b c d x y = refl

  -- the plan by the value of the expression
  pub value-plan : (r : Result ℤ Trap) → r ≡ value_of (known (known_of (cells_in g) code)) code
      → planned g ≡ by_effect g (head_number g) it.node (effect_by (cells_in g) it.node.action r)
  value-plan r is =
      acted_by g code it (at_boundary g it.node) refl it.free
      ∙ sym (acts_by g (head_number g) it.node (effect_by (cells_in g) it.node.action r) no_end
      (no_wait (is_outer g) (is_sync it.node.action) (leaves it.node.action) (not (is_synched g.nodes (id_of g))) there.no_sync there.stays)
      (ap (effect_by (cells_in g) it.node.action) (is ∙ plain-value (cells_in g) code there.is_plain_code) ∙ sym there.effect))

record Sees (g : StepInput) (peek : Peek) : Type 0 where
  code : Term Slot
  code_is : code_in g ≡ Some code
  same : peek_by g code ≡ peek

sees_by : (g : StepInput) (peek : Peek) (o : Option (Term Slot)) → code_in g ≡ o → option_map (peek_by g) o ≡ Some peek → Sees g peek
sees_by g peek None is h = cc
sees_by g peek (Some code) is h = record { code = code; code_is = is; same = same_Some (peek_by g code) peek h }

trap-effect : (cells : Cells) (act : Action) (trap : Trap) → effect_by cells act (Err trap) ≡ Err trap
trap-effect cells (Assign target t) trap = refl
trap-effect cells (Call target callee codes) trap = refl
trap-effect cells (Spawn taker callee codes) trap = refl
trap-effect cells (Print format codes) trap = refl
trap-effect cells (Locking what lock) trap = refl
trap-effect cells Null trap = refl
trap-effect cells Break trap = refl
trap-effect cells Continue trap = refl
trap-effect cells (Test t) trap = refl
trap-effect cells Sync trap = refl
trap-effect cells Abort trap = refl
trap-effect cells (Return t) trap = refl
trap-effect cells ReturnNothing trap = refl
trap-effect cells Close trap = refl

pub no_effect : (g : StepInput) (n : ℕ) (node : Node) (trap : Trap)
    → traps (kind.Value trap) n ≡ by_effect g n node (effect_by (cells_in g) node.action (Err trap))
no_effect g n node trap = ap (by_effect g n node) (sym (trap-effect (cells_in g) node.action trap))

-- who looked ahead, and has the value of what was seen
module _ (g : StepInput) (peek : Peek) (seen : peek_in g ≡ Some peek) (r : Result ℤ Trap) (value : r ≡ value_of (known peek.values) peek.code) where
  s : Sees g peek
  s = sees_by g peek (code_in g) refl seen

  value_is : r ≡ value_of (known (known_of (cells_in g) s.code)) s.code
  value_is = value ∙ ap (λ (l : Peek). value_of (known l.values) l.code) (sym s.same)

  pub seen-plan : (n : ℕ) (node : Node) → n ≡ head_number g → Some node ≡ node_of g.program n
      → by_effect g n node (effect_by (cells_in g) node.action r) ≡ planned g
  seen-plan n node at is =
      let same : (it g s.code s.code_is).node ≡ node
      = same_Some (it g s.code s.code_is).node node (sym (it g s.code s.code_is).is ∙ ap (node_of g.program) (sym at) ∙ sym is) in
      ap (λ (k : ℕ). by_effect g k node (effect_by (cells_in g) node.action r)) at
      ∙ ap (λ (x : Node). by_effect g (head_number g) x (effect_by (cells_in g) x.action r)) (sym same)
      ∙ sym (value-plan g s.code s.code_is r value_is)

  pub seen-number : peek.n ≡ head_number g
  seen-number = sym (ap (λ (l : Peek). l.n) s.same)
