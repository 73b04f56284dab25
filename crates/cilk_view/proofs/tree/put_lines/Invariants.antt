use Rattle.std.proofs.Common.{◌≡◌, ◌++◌, string_bytes, drop}
use Rattle.cilk_view.specs.Trees.{lines_by}
use Rattle.cilk_view.proofs.tree.put_lines.Given as goal

abbrev pub invariant-loop-path : goal.invariant-loop-path
invariant-loop-path l =
    string_bytes l.out ++ lines_by l.shown.loaded.now l.shown.tree.now.nodes l.shown.hands.now (drop l.path-index l.made)
    ≡ string_bytes l.initial.out ++ lines_by l.shown.loaded.now l.shown.tree.now.nodes l.shown.hands.now l.made
