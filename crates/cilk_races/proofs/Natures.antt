-- The node of an action tells what the action does.
use Rattle.std.proofs.Common.{◌≡◌, ℕ, pos, Bool, true, false, List, [], ◌∷◌, Option, Some, None, option_map, refl, ap, ◌∙◌, if◌then◌else◌}
use Rattle.cilk_log_replay.specs.machine.nodes.scopes.syntax.Tree.{Program}
use Rattle.cilk_log_replay.specs.machine.nodes.declared.slot.Slot.{Slot}
use Rattle.cilk_log_replay.specs.machine.nodes.model.labelled.Labelled as labelled
use Rattle.cilk_log_replay.specs.machine.nodes.model.labelled.Labelled.{Declaration, Numbered, Labelled}
use Rattle.cilk_log_replay.specs.machine.nodes.model.labelled.Items.{Items, head_of}
use Rattle.cilk_log_replay.specs.machine.nodes.model.labelled.Bodies.{label}
use Rattle.cilk_log_replay.specs.machine.nodes.model.Change.{leaves, is_sync}
use Rattle.cilk_log_replay.specs.machine.nodes.declared.node.Node.{Node}
use Rattle.cilk_log_replay.specs.machine.nodes.declared.action.Action.{Action}
use Rattle.cilk_log_replay.specs.machine.nodes.Actions.{slotted}
use Rattle.cilk_log_replay.specs.machine.nodes.Slots.{slot_of}
use Rattle.cilk_log_replay.specs.machine.nodes.Table.{Row, number_of, number_else, cases_of, has_number, rows_from, node_at, node_among, node_of}
use Rattle.cilk_races.specs.Acts.{list_among, act_in, act_of, is_call, goes_through, is_so}
use Rattle.cilk_races.specs.Nodes.{node_calls, node_leaves, node_waits, node_goes_through}

abbrev action_in : Option Node → Option Action
action_in o = option_map (λ (n : Node). n.action) o

-- two tests that agree on each action
abbrev Same : (Action → Bool) → (labelled.Action → Bool) → Type 0
Same g f = (slots : Declaration → Slot) (act : labelled.Action) → g (slotted slots act) ≡ f act

module _ (g : Action → Bool) (f : labelled.Action → Bool) (same : Same g f) where
  by_head : (F : Numbered → Node) (slots : Declaration → Slot) → ((h : Numbered) → (F h).action ≡ slotted slots h.act)
      → (o : Option Numbered) → is_so g (action_in (option_map F o)) ≡ is_so f (option_map (λ (h : Numbered). h.act) o)
  by_head F slots e None = refl
  by_head F slots e (Some h) = ap g (e h) ∙ same slots h.act

  here : (program : Labelled) (b : ℕ) (items : Items) → is_so g (action_in (node_at program b items)) ≡ is_so f (act_in items)
  here program b items =
      by_head
      (λ h. record {
        action = slotted (slot_of program b) h.act;
        next = number_else (pos 1) items;
        other = number_else (pos 0) items;
        cases = cases_of items;
        body = b;
      })
      (slot_of program b) (λ h. refl) (head_of items)

  by_test : (b : Bool) (x y : Option Node) (u v : Items) → is_so g (action_in x) ≡ is_so f (act_in u) → is_so g (action_in y) ≡ is_so f (act_in v)
      → is_so g (action_in (if b then x else y)) ≡ is_so f (act_in (if b then u else v))
  by_test true x y u v h k = h
  by_test false x y u v h k = k

  among : (program : Labelled) (n : ℕ) (rows : List Row) → is_so g (action_in (node_among program n rows)) ≡ is_so f (act_in (list_among n rows))
  among program n [] = refl
  among program n (r ∷ rows) =
      by_test (has_number n (number_of r.items)) (node_at program r.body r.items) (node_among program n rows) r.items (list_among n rows)
      (here program r.body r.items) (among program n rows)

  pub told_by : (p : Program) (n : ℕ) (o : Option Node) → o ≡ node_of p n → is_so g (action_in o) ≡ is_so f (act_of (label p) n)
  told_by p n o e = ap (λ (x : Option Node). is_so g (action_in x)) e ∙ among (label p) n (rows_from 0 (label p).bodies)

pub same_calls : Same node_calls is_call
same_calls slots (labelled.call place callee arguments) = refl
same_calls slots other = refl

pub same_leaves : Same node_leaves leaves
same_leaves slots (labelled.return_with value) = refl
same_leaves slots other = refl

pub same_waits : Same node_waits is_sync
same_waits slots labelled.sync = refl
same_waits slots other = refl

pub same_through : Same node_goes_through goes_through
same_through slots (labelled.spawn labelled.nothing callee arguments) = refl
same_through slots (labelled.spawn (labelled.into place) callee arguments) = refl
same_through slots (labelled.spawn (labelled.through inlet others) callee arguments) = refl
same_through slots other = refl
