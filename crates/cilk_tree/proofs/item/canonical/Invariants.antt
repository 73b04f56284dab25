use Rattle.std.proofs.Common.{◌≡◌, ◌++◌, [], string_bytes, drop}
use Rattle.cilk_tree_syntax.specs.Lines.{text_of}
use Rattle.cilk_tree_syntax.specs.ProgramText.{items_lines}
use Rattle.cilk_tree.proofs.item.canonical.Given as goal

abbrev pub invariant-loop-item : goal.invariant-loop-item
invariant-loop-item l =
    string_bytes l.out ++ text_of [] (items_lines (drop l.item-index l.item-items)) ≡ string_bytes l.initial.out ++ text_of [] (items_lines l.item-items)
