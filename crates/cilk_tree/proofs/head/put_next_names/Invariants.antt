use Rattle.std.proofs.Common.{◌≡◌, ◌++◌, string_bytes, drop}
use Rattle.cilk_tree_syntax.specs.StmtLines.{next_names_text}
use Rattle.cilk_tree.proofs.head.put_next_names.Given as goal

abbrev pub invariant-loop-name : goal.invariant-loop-name
invariant-loop-name l = string_bytes l.out ++ next_names_text (drop l.name-index l.names) ≡ string_bytes l.initial.out ++ next_names_text l.names
