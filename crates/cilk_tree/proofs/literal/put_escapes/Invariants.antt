use Rattle.std.proofs.Common.{◌≡◌, ◌++◌, string_bytes}
use Rattle.std.specs.Str.Iter.{chars_rest}
use Rattle.cilk_tree_syntax.specs.MoveText.{escapes}
use Rattle.cilk_tree.proofs.literal.put_escapes.Given as goal

abbrev pub invariant-loop-c : goal.invariant-loop-c
invariant-loop-c l = string_bytes l.out ++ escapes (chars_rest l.c-iterator) ≡ string_bytes l.fn.out ++ escapes l.fn.text
