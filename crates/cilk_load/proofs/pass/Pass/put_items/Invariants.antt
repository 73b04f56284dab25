use Rattle.std.proofs.Common.{◌≡◌, ◌+◌, ◌++◌, drop, vec_len}
use Rattle.cilk_load_nodes.specs.labelled.Count.{count_items}
use Rattle.cilk_load_nodes.specs.Plain.{PlainItems}
use Rattle.cilk_load.specs.Outer.{items_nodes}
use Rattle.cilk_load.proofs.pass.Pass.put_items.Given as goal

abbrev pub invariant-loop-item : goal.invariant-loop-item
invariant-loop-item l = record {
  nodes : l.self.nodes.items ++ items_nodes l.bodies l.b l.self.names (vec_len l.self.nodes + 1) (drop l.item-index l.items) ≡ l.initial.self.nodes.items
      ++ items_nodes l.bodies 0 l.initial.self.names (vec_len l.initial.self.nodes + 1) l.items;
  len : vec_len l.self.nodes + count_items (drop l.item-index l.items) ≡ vec_len l.initial.self.nodes + count_items l.items;
  names : l.self.names ≡ l.initial.self.names;
  plain : PlainItems (drop l.item-index l.items);
}
