-- The ways of a step: what comes first decides.
use Rattle.std.proofs.Common.{◌≡◌, ℕ, Bool, true, false, not, ◌&&◌, ◌||◌, ℤ, Ok, List, [], ◌∷◌, Option, Some, None, Result, refl, sym, ap, ◌∙◌, if◌then◌else◌}
use Rattle.std.proofs.lemmas.Bool.{or_parts}
use Rattle.std.specs.Prelude.{slice_get}
use Rattle.cilk_machine_plan.specs.nodes.declared.node.Node.{Node}
use Rattle.cilk_machine_plan.specs.nodes.Table.{node_of}
use Rattle.cilk_machine_plan.specs.nodes.Bodies.{body_of}
use Rattle.cilk_load.specs.model.declared.trap.Trap.{Trap}
use Rattle.cilk_machine_plan.specs.spawn.Nodes.{is_synched}
use Rattle.cilk_machine_plan.specs.eval.declared.effect.Effect.{Effect}
use Rattle.cilk_machine_plan.specs.eval.declared.effect.Effect.TheVariants.{Gives}
use Rattle.cilk_machine_plan.specs.effects.Effects.{effect_in}
use Rattle.cilk_machine_plan.specs.spawn.declared.delivery.Delivery.{Delivery}
use Rattle.cilk_machine_plan.specs.frame.declared.trap_kind.TrapKind.TheVariants as kind
use Rattle.cilk_machine_plan.specs.declared.plan.Plan.TheVariants as plan
use Rattle.cilk_machine_plan.specs.Made.{traps, waits_here, ends_thread, leaves, is_sync, is_spawn, is_function_body, given, by_effect, planned}
use Rattle.cilk_machine_plan.specs.Made.{aborted, by_head, by_deliveries, acted, at_boundary}
use Rattle.cilk_machine_plan.specs.StepInput.{StepInput, id_of, own_node, head_number, cells_in, holds_lock, is_outer}

-- an action that may be acted comes to its effect
pub acts_by : (g : StepInput) (n : ℕ) (node : Node) (r : Result Effect Trap) → (ends_thread g node && holds_lock g) ≡ false
    → (waits_here g node && not (is_synched g.nodes (id_of g))) ≡ false → r ≡ effect_in (cells_in g) n node.action → by_effect g n node r ≡ acted g n node
acts_by g n node r free ready is =
    ap (by_effect g n node) is
    ∙ ap (λ (b : Bool). if b then plan.Park else by_effect g n node (effect_in (cells_in g) n node.action)) (sym ready)
    ∙ ap (λ (b : Bool). if b then traps kind.HeldLock n
    else (if waits_here g node && not (is_synched g.nodes (id_of g)) then plan.Park else by_effect g n node (effect_in (cells_in g) n node.action))) (sym free)

no-thread : (sync spawn leaving outer inner : Bool) → leaving ≡ true → (sync || (spawn || (leaving && (outer || inner)))) ≡ false
    → (outer && (sync || leaving)) ≡ false
no-thread sync spawn leaving outer inner goes h =
    let ends = (or_parts spawn (leaving && (outer || inner)) (or_parts sync (spawn || (leaving && (outer || inner))) h).1).1 in
    let stays = (or_parts outer inner (ap (λ b. b && (outer || inner)) (sym goes) ∙ ends)).0 in
    ap (λ b. b && (sync || leaving)) stays

-- a C function is left, and no thread ends there
pub leaves_by : (g : StepInput) (n : ℕ) (node : Node) (z : ℤ) → leaves node.action ≡ true → ends_thread g node ≡ false
    → effect_in (cells_in g) n node.action ≡ Ok (Gives z) → given g n node z ≡ acted g n node
leaves_by g n node z goes inner is =
    acts_by g n node (Ok (Gives z)) (ap (λ b. b && holds_lock g) inner)
    (ap (λ b. b && not (is_synched g.nodes (id_of g))) (no-thread (is_sync node.action) (is_spawn node.action) (leaves node.action) (is_outer g)
    (not (is_function_body (body_of g.program node.body))) goes inner)) (sym is)

none-waits : (g : StepInput) (n : ℕ) (node : Node) (ds : List Delivery) → slice_get ds 0 ≡ None → by_deliveries g n node ds ≡ acted g n node
none-waits g n node [] h = refl
none-waits g n node (d ∷ ds) h = cc

module _ (g : StepInput) where
  live-way : (own_node g).aborted ≡ false → planned g ≡ by_head g (head_number g) (node_of g.program (head_number g))
  live-way h = ap (λ (b : Bool). if b then aborted g else by_head g (head_number g) (node_of g.program (head_number g))) h

  -- a live instance whose head is action n
  module _ (n : ℕ) (at : n ≡ head_number g) (live : (own_node g).aborted ≡ false) where
    head-way : (o : Option Node) → o ≡ node_of g.program n → planned g ≡ by_head g n o
    head-way o h = live-way live ∙ ap (λ (k : ℕ). by_head g k (node_of g.program k)) (sym at) ∙ ap (by_head g n) (sym h)

    module _ (node : Node) (is : Some node ≡ node_of g.program n) where
      node-way : (b : Bool) → at_boundary g node ≡ b → planned g ≡ (if b then by_deliveries g n node (own_node g).waiting else acted g n node)
      node-way b h =
          head-way (Some node) is ∙ ap (λ (c : Bool). if c then by_deliveries g n node (own_node g).waiting else acted g n node) h

      pub inner-way : at_boundary g node ≡ false → planned g ≡ acted g n node
      inner-way h = node-way false h

      pub free-way : at_boundary g node ≡ true → slice_get (own_node g).waiting 0 ≡ None → planned g ≡ acted g n node
      free-way h none = node-way true h ∙ none-waits g n node (own_node g).waiting none
