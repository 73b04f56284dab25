use Rattle.std.proofs.Common.{◌≡◌, ◌+◌, ◌++◌, drop}
use Rattle.cilk_tree_syntax.specs.Tree.{stmts_of}
use Rattle.cilk_load_nodes.specs.labelled.Count.{count_stmts}
use Rattle.cilk_load.specs.Pass.{cases_in}
use Rattle.cilk_load.proofs.labels.cases_in.Given as goal

abbrev pub invariant-loop-stmt : goal.invariant-loop-stmt
invariant-loop-stmt l = record {
  cases : l.cases.items ++ cases_in l.at (stmts_of (drop l.stmt-index l.stmts)) l.next ≡ cases_in l.initial.at (stmts_of l.stmts) l.next;
  left : l.left ≡ count_stmts (stmts_of (drop l.stmt-index l.stmts));
  room : l.at + count_stmts (stmts_of (drop l.stmt-index l.stmts)) ≡ l.initial.at + count_stmts (stmts_of l.stmts);
}
