use Rattle.std.proofs.Common.{◌≡◌, drop, false}
use Rattle.cilk_lex.specs.Sight.{quote_from}
use Rattle.cilk_lex.proofs.literal.closing_quote.Given as goal

abbrev pub invariant-loop-byte : goal.invariant-loop-byte
invariant-loop-byte l = record {
  place : l.place ≡ l.byte-index;
  left : quote_from false 0 l.text ≡ quote_from l.escaped l.byte-index (drop l.byte-index l.text);
}
