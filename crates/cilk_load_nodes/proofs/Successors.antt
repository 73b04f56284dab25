-- Where a node leads by each value of a test is what comes next of the list that it stands for.
use Rattle.std.proofs.Common.{◌≡◌, ℕ, ℤ, pos, Bool, true, false, cond, [], ◌∷◌, Option, Some, None, option_map, refl, sym, ap, ◌∙◌}
use Rattle.std.specs.Ordering.{int_eq}
use Rattle.cilk_load_nodes.specs.declared.slot.Slot.{Slot}
use Rattle.cilk_model.specs.labelled.Labelled.{Declaration, Labelled, Numbered, action, choose, while, repeat, loop, select, at_label, nested, Stmts}
use Rattle.cilk_model.specs.labelled.Labelled.{none, also}
use Rattle.cilk_model.specs.labelled.Items.{Round, piece, at_test, at_advance, at_end, Items, pieces, opened, head_of, holds, after_choice, after_test}
use Rattle.cilk_model.specs.labelled.Items.{behind_label, behind_by, first_there, selected}
use Rattle.cilk_load_nodes.specs.declared.case.Case.{Case}
use Rattle.cilk_load_nodes.specs.declared.node.Node.{Node}
use Rattle.cilk_load_nodes.specs.Slots.{slot_of}
use Rattle.cilk_load_nodes.specs.Actions.{slotted}
use Rattle.cilk_load_nodes.specs.Table.{number_of, case_of, successor_by, successor, number_after, number_else, label_cases, cases_of, node_at}

-- where the first case of a value leads is behind the first label of that value
case-leads : (z : ℤ) (ss : Stmts) (items : Items)
    → option_map (λ (c : Case). c.to) (case_of z (label_cases ss items))
    ≡ option_map (λ (l : Stmts). number_of (opened (pieces l items))) (behind_label (Some z) ss)
case-leads z none items = refl
case-leads z (also (at_label None) ss) items = case-leads z ss items
case-leads z (also (at_label (Some y)) ss) items = by (int_eq z y) (case-leads z ss items)
  where
    first : Case
    first = record { value = y; to = number_of (opened (pieces ss items)) }

    by : (b : Bool)
        → option_map (λ (c : Case). c.to) (case_of z (label_cases ss items))
        ≡ option_map (λ (l : Stmts). number_of (opened (pieces l items))) (behind_label (Some z) ss)
        → option_map (λ (c : Case). c.to) (cond b (Some first) (case_of z (label_cases ss items)))
        ≡ option_map (λ (l : Stmts). number_of (opened (pieces l items))) (behind_by b ss (behind_label (Some z) ss))
    by true later = refl
    by false later = later
case-leads z (also s ss) items = case-leads z ss items

either-way : (b : Bool) (n : Option ℕ) → cond b n n ≡ n
either-way true n = refl
either-way false n = refl

module _ (slots : Declaration → Slot) (b : ℕ) (h : Numbered) where
  -- the node of a list with this head
  abbrev made : Items → Node
  made items = record {
    action = slotted slots h.act;
    next = number_else (pos 1) items;
    other = number_else (pos 0) items;
    cases = cases_of items;
    body = b;
  }

  select-leads : (test : Numbered) (body : Stmts) (items : Items) (z : ℤ) (found : Option Case) (own : Option Stmts)
      → option_map (λ (c : Case). c.to) found ≡ option_map (λ (l : Stmts). number_of (opened (pieces l (at_end ∷ items)))) own
      → successor_by (made (piece (select test body) ∷ items)) z found
      ≡ number_of (opened (selected (first_there own (behind_label None body)) items))
  select-leads test body items z None None e = either-way (holds z) (number_of (opened (selected (behind_label None body) items)))
  select-leads test body items z None (Some l) e = cc
  select-leads test body items z (Some c) None e = cc
  select-leads test body items z (Some c) (Some l) e = cc

  choose-leads : (c : Bool) (body other : Stmts) (items : Items)
      → cond c (number_of (opened (pieces body items))) (number_of (opened (pieces other items))) ≡ number_of (opened (after_choice c body other items))
  choose-leads true body other items = refl
  choose-leads false body other items = refl

  test-leads : (c : Bool) (round : Round) (items : Items)
      → cond c (number_of (opened (after_test true round items))) (number_of (opened (after_test false round items)))
      ≡ number_of (opened (after_test c round items))
  test-leads true round items = refl
  test-leads false round items = refl

  made-leads : (items : Items) (z : ℤ) → successor (made items) z ≡ number_after z items
  made-leads [] z = either-way (holds z) _
  made-leads (piece (action what) ∷ items) z = either-way (holds z) _
  made-leads (piece (choose test body other) ∷ items) z = choose-leads (holds z) body other items
  made-leads (piece (while test body) ∷ items) z = either-way (holds z) _
  made-leads (piece (repeat body test) ∷ items) z = either-way (holds z) _
  made-leads (piece (loop first test advance body) ∷ items) z = either-way (holds z) _
  made-leads (piece (select test body) ∷ items) z =
      select-leads test body items z (case_of z (label_cases body (at_end ∷ items))) (behind_label (Some z) body) (case-leads z body (at_end ∷ items))
  made-leads (piece (at_label value) ∷ items) z = either-way (holds z) _
  made-leads (piece (nested inside) ∷ items) z = either-way (holds z) _
  made-leads (at_test round ∷ items) z = test-leads (holds z) round items
  made-leads (at_advance advance round ∷ items) z = either-way (holds z) _
  made-leads (at_end ∷ items) z = either-way (holds z) _

pub successor-of : (program : Labelled) (b : ℕ) (items : Items) (node : Node) → node_at program b items ≡ Some node → (z : ℤ)
    → successor node z ≡ number_after z items
successor-of program b items node e z = by_head (head_of items) e
  where
    by_head : (o : Option Numbered) → option_map (λ (h : Numbered). made (slot_of program b) b h items) o ≡ Some node
        → successor node z ≡ number_after z items
    by_head None e = cc
    by_head (Some h) e =
        let same : made (slot_of program b) b h items ≡ node = cc in
        ap (λ (m : Node). successor m z) (sym same) ∙ made-leads (slot_of program b) b h items z
