use Rattle.std.proofs.Common.{◌≡◌, ◌+◌, ◌++◌, List, ◌∷◌, drop, sym, ap, subst, ◌∙◌, arith, vec_len, append_assoc, append-nil}
use Rattle.std.proofs.lemmas.List.{at_drop_all, at_drop_more}
use Rattle.cilk_tree_syntax.specs.Tree as tree
use Rattle.cilk_load_nodes.specs.labelled.Count.{count_item, count_items}
use Rattle.cilk_load_nodes.specs.labelled.Bodies.{body_count}
use Rattle.cilk_load_nodes.specs.Plain.{PlainItems}
use Rattle.cilk_load.specs.Outer.{item_nodes, items_nodes}
use Rattle.cilk_load.proofs.pass.Pass.put_items.Goals as goal

pub loop-item-preserved : goal.loop-item-preserved
loop-item-preserved c =
    let bodies = c.args.bodies.now in
    let old = c.loop-item.self in
    let new = c.put_item.new.self in
    let b = c.loop-item.b in
    let item = c.item-item.result in
    let rest = drop (c.loop-item.item-index + 1) c.args.items.now in
    let more : drop c.loop-item.item-index c.args.items.now ≡ item ∷ rest =
    at_drop_more (λ (xs : List tree.Item). xs) c.args.items.now c.loop-item.item-index item c.loop-item-test.true
    ∙ ap (λ (x : tree.Item). x ∷ rest) (sym c.item-item.is)
    in
    let place : vec_len new.nodes + 1 ≡ vec_len old.nodes + 1 + count_item item = omega (arith, c.in_ok-b.ensures.len) in
    record {
      nodes =
          (λ i. c.in_ok-b.ensures.nodes i ++ items_nodes bodies (c.in_ok-b.ensures.after i) (c.in_ok-b.ensures.names i) (place i) rest)
          ∙ append_assoc old.nodes.items (item_nodes bodies b old.names (vec_len old.nodes + 1) item)
          (items_nodes bodies (b + body_count item) old.names (vec_len old.nodes + 1 + count_item item) rest)
          ∙ ap (λ (xs : List tree.Item). old.nodes.items ++ items_nodes bodies b old.names (vec_len old.nodes + 1) xs) (sym more)
          ∙ c.loop-item.invariant.nodes;
      len = omega (arith, c.in_ok-b.ensures.len, c.loop-item.invariant.len, ap count_items more);
      names = c.in_ok-b.ensures.names ∙ c.loop-item.invariant.names;
      plain = (subst PlainItems more c.loop-item.invariant.plain).1;
    }

pub returns-clause-nodes : goal.returns-clause-nodes
returns-clause-nodes c =
    let now = c.loop-item in
    let none =
    at_drop_all (λ xs. items_nodes c.args.bodies.now now.b now.self.names (vec_len now.self.nodes + 1) xs) c.args.items.now now.item-index
    c.loop-item-test.false
    in
    sym (append-nil _) ∙ (rw none at c.loop-item.invariant.nodes)
