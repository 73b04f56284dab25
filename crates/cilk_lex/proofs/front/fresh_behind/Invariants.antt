use Rattle.std.proofs.Common.{◌≡◌, drop}
use Rattle.cilk_lex_tokens.specs.Lexing.{fresh_behind}
use Rattle.cilk_lex.proofs.front.fresh_behind.Given as goal

abbrev pub invariant-loop-byte : goal.invariant-loop-byte
invariant-loop-byte l = fresh_behind l.fresh l.front ≡ fresh_behind l.behind (drop l.byte-index l.front)
