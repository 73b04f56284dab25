use Rattle.std.proofs.Common.{◌≡◌, ◌+◌, ◌<◌, drop, false, true}
use Rattle.cilk_lex.specs.Sight.{fault_from}
use Rattle.cilk_lex.proofs.literal.fault_within.Given as goal

abbrev pub invariant-loop-byte : goal.invariant-loop-byte
invariant-loop-byte l = record {
  place : l.place ≡ l.at + l.byte-index;
  behind : l.escaped ≡ true → 0 < l.place;
  left : fault_from false l.at l.body ≡ fault_from l.escaped l.place (drop l.byte-index l.body);
}
