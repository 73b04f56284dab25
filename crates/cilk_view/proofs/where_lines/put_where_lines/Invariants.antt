use Rattle.std.proofs.Common.{◌≡◌, ◌++◌, ◌+◌, string_bytes, drop}
use Rattle.cilk_view.specs.WhereLines.{by_worker, where_line}
use Rattle.cilk_view.proofs.where_lines.put_where_lines.Given as goal

abbrev pub invariant-loop-before : goal.invariant-loop-before
invariant-loop-before l =
    string_bytes l.out ++ by_worker (where_line l.fn.loaded l.fn.tree.nodes) (l.before + 1) (drop l.before l.fn.hands)
    ≡ string_bytes l.initial.out ++ by_worker (where_line l.fn.loaded l.fn.tree.nodes) 1 l.fn.hands
