use Rattle.std.proofs.Common.{◌≡◌, ◌++◌, ◌-◌, string_bytes}
use Rattle.cilk_tree_syntax.specs.ProgramText.{next_types_text}
use Rattle.cilk_tree.proofs.item.put_next_types.Given as goal

abbrev pub invariant-loop : goal.invariant-loop
invariant-loop l = string_bytes l.out ++ next_types_text (l.count - l.counter) ≡ string_bytes l.initial.out ++ next_types_text l.count
