use Rattle.std.proofs.Common.{◌≡◌, ◌≤◌, ◌+◌, ◌++◌, drop}
use Rattle.cilk_load_nodes.specs.labelled.Count.{count_items}
use Rattle.cilk_load.specs.BodyTables.{items_tables}
use Rattle.cilk_load.proofs.building.bodies_of.Given as goal

abbrev pub invariant-loop-item : goal.invariant-loop-item
invariant-loop-item l = record {
  bodies : l.bodies.items ++ items_tables l.at (drop l.item-index l.items) ≡ items_tables 1 l.items;
  at : l.at + count_items (drop l.item-index l.items) ≡ 1 + count_items l.items;
  some : 1 ≤ l.at;
}
