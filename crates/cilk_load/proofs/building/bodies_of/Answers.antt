use Rattle.std.proofs.Common.{◌≡◌, ℕ, ◌+◌, ◌<◌, ◌++◌, List, ◌∷◌, length, get_or, drop, sym, ap, ◌∙◌, arith, append_assoc, append-nil}
use Rattle.std.proofs.lemmas.List.{at_drop_all, at_drop_more}
use Rattle.cilk_tree_syntax.specs.Tree as tree
use Rattle.cilk_load_nodes.specs.labelled.Count.{count_item, count_items}
use Rattle.cilk_load.specs.BodyTables.{item_tables, items_tables}
use Rattle.cilk_load.proofs.building.bodies_of.Goals as goal

parted : (items : List tree.Item) (k : ℕ) (item : tree.Item) → k < length items → item ≡ get_or items k item
    → count_items (drop k items) ≡ count_item item + count_items (drop (k + 1) items)
parted items k item below is =
    at_drop_more count_items items k item below ∙ ap (λ (x : tree.Item). count_item x + count_items (drop (k + 1) items)) (sym is)

pub put_item-requires : goal.put_item-requires
put_item-requires c = omega (arith, parted c.args.items.now c.loop-item.item-index c.item-item.result c.loop-item-test.true c.item-item.is)

pub actions_of_item-at-requires : goal.actions_of_item-at-requires
actions_of_item-at-requires c = omega (arith, parted c.args.items.now c.loop-item.item-index c.item-item.result c.loop-item-test.true c.item-item.is)

pub overflow_add-at : goal.overflow_add-at
overflow_add-at c =
    omega (arith, c.actions_of_item-at.ensures, parted c.args.items.now c.loop-item.item-index c.item-item.result c.loop-item-test.true c.item-item.is)

pub returns : goal.returns
returns c =
    sym (append-nil _)
    ∙ (rw (at_drop_all (λ xs. items_tables c.loop-item.at xs) c.args.items.now c.loop-item.item-index c.loop-item-test.false) at c.loop-item.invariant.bodies)

pub loop-item-preserved : goal.loop-item-preserved
loop-item-preserved c =
    let before = c.loop-item.bodies.items in
    let at = c.loop-item.at in
    let item = c.item-item.result in
    let rest = drop (c.loop-item.item-index + 1) c.args.items.now in
    let more : drop c.loop-item.item-index c.args.items.now ≡ item ∷ rest =
    at_drop_more (λ (xs : List tree.Item). xs) c.args.items.now c.loop-item.item-index item c.loop-item-test.true
    ∙ ap (λ (x : tree.Item). x ∷ rest) (sym c.item-item.is)
    in
    record {
      bodies =
          (λ i. c.in_ok-put_item.ensures i ++ items_tables (at + c.actions_of_item-at.ensures i) rest)
          ∙ append_assoc before (item_tables at item) (items_tables (at + count_item item) rest)
          ∙ ap (λ (xs : List tree.Item). before ++ items_tables at xs) (sym more)
          ∙ c.loop-item.invariant.bodies;
      at = omega (arith, c.actions_of_item-at.ensures, c.loop-item.invariant.at, ap count_items more);
      some = omega (arith, c.loop-item.invariant.some);
    }
