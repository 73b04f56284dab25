use Rattle.std.proofs.Common.{◌≡◌, ◌+◌, ◌≤◌, min, drop}
use Rattle.cilk_tree_syntax.specs.Tree.{stmts_of, locals_of}
use Rattle.cilk_load_nodes.specs.labelled.Count.{count_stmts, count_locals}
use Rattle.cilk_load.proofs.counts.+count.Given as goal

abbrev pub invariant-count_locals-loop-local : goal.invariant-count_locals-loop-local
invariant-count_locals-loop-local l =
    (l.count ≤ 65536) × (min (l.count + count_locals (locals_of (drop l.local-index l.locals))) 65536 ≡ min (count_locals (locals_of l.locals)) 65536)

abbrev pub invariant-count_stmts-loop-stmt : goal.invariant-count_stmts-loop-stmt
invariant-count_stmts-loop-stmt l =
    (l.count ≤ 65536) × (min (l.count + count_stmts (stmts_of (drop l.stmt-index l.stmts))) 65536 ≡ min (count_stmts (stmts_of l.stmts)) 65536)
