use Rattle.std.proofs.Common.{◌≡◌, ◌≤◌, drop, false}
use Rattle.cilk_check.proofs.Formats.{counted}
use Rattle.cilk_check.proofs.format.numbers_in.Given as goal

abbrev pub invariant-loop-byte : goal.invariant-loop-byte
invariant-loop-byte l =
    (l.numbers ≤ l.byte-index) × (counted l.numbers l.is_open (drop l.byte-index l.byte-items) ≡ counted 0 false l.byte-items)
