use Rattle.std.proofs.Common.{◌≡◌, ◌++◌, string_bytes, flat_map, take}
use Rattle.cilk_check_explain.specs.Lines.{blank_for}
use Rattle.cilk_check_explain.proofs.lines.say_blanks.Given as goal

abbrev pub invariant-loop-byte : goal.invariant-loop-byte
invariant-loop-byte l = string_bytes l.out ≡ string_bytes l.fn.out ++ flat_map blank_for (take l.byte-index l.front)
