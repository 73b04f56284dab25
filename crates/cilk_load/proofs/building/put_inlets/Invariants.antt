use Rattle.std.proofs.Common.{◌≡◌, ◌+◌, ◌++◌, drop}
use Rattle.cilk_tree_syntax.specs.Tree.{locals_of}
use Rattle.cilk_load_nodes.specs.labelled.Count.{count_locals}
use Rattle.cilk_load.specs.BodyTables.{inlet_tables}
use Rattle.cilk_load.proofs.building.put_inlets.Given as goal

abbrev pub invariant-loop-local : goal.invariant-loop-local
invariant-loop-local l = record {
  bodies : l.bodies.items ++ inlet_tables l.at (locals_of (drop l.local-index l.locals)) ≡ l.initial.bodies.items
      ++ inlet_tables l.initial.at (locals_of l.locals);
  at : l.at + count_locals (locals_of (drop l.local-index l.locals)) ≡ l.initial.at + count_locals (locals_of l.locals);
}
