use Rattle.std.proofs.Common.{◌≡◌, ◌++◌, [], map, string_bytes, drop}
use Rattle.cilk_tree_syntax.specs.Lines.{text_of}
use Rattle.cilk_tree_syntax.specs.ProgramText.{header_line}
use Rattle.cilk_tree.proofs.item.put_headers.Given as goal

abbrev pub invariant-loop-header : goal.invariant-loop-header
invariant-loop-header l =
    string_bytes l.out ++ text_of [] (map header_line (drop l.header-index l.headers)) ≡ string_bytes l.initial.out ++ text_of [] (map header_line l.headers)
