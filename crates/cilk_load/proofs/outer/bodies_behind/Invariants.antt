use Rattle.std.proofs.Common.{◌≡◌, ◌+◌, drop}
use Rattle.cilk_tree_syntax.specs.Tree.{locals_of}
use Rattle.cilk_load_nodes.specs.labelled.Bodies.{inlet_count}
use Rattle.cilk_load.proofs.outer.bodies_behind.Given as goal

abbrev pub invariant-loop-local : goal.invariant-loop-local
invariant-loop-local l =
    l.after + inlet_count (locals_of (drop l.local-index l.local-items)) ≡ l.b + 1 + inlet_count (locals_of l.local-items)
