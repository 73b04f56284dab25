use Rattle.std.proofs.Common.{◌≡◌, ◌+◌, drop}
use Rattle.cilk_tree_syntax.specs.Tree.{locals_of}
use Rattle.cilk_load_nodes.specs.labelled.Count.{count_locals}
use Rattle.cilk_load.specs.Firsts.{locals_first}
use Rattle.cilk_load.proofs.firsts.locals_first.Given as goal

abbrev pub invariant-loop-local : goal.invariant-loop-local
invariant-loop-local l = record {
  first : locals_first l.at (locals_of (drop l.local-index l.locals)) l.next ≡ locals_first l.initial.at (locals_of l.locals) l.next;
  at : l.at + count_locals (locals_of (drop l.local-index l.locals)) ≡ l.initial.at + count_locals (locals_of l.locals);
}
