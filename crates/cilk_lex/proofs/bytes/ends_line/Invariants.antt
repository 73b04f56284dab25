use Rattle.std.proofs.Common.{◌≡◌, drop}
use Rattle.cilk_lex.specs.Sight.{ends_line}
use Rattle.cilk_lex.proofs.bytes.ends_line.Given as goal

abbrev pub invariant-loop-byte : goal.invariant-loop-byte
invariant-loop-byte l = ends_line l.text ≡ ends_line (drop l.byte-index l.text)
