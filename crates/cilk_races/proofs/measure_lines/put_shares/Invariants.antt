use Rattle.std.proofs.Common.{◌≡◌, ◌++◌, ◌+◌, string_bytes, drop}
use Rattle.cilk_races.specs.Text.{share_lines}
use Rattle.cilk_races.proofs.measure_lines.put_shares.Given as goal

abbrev pub invariant-loop-i : goal.invariant-loop-i
invariant-loop-i l =
    string_bytes l.out ++ share_lines (l.i + 1) (drop l.i l.shares) ≡ string_bytes l.initial.out ++ share_lines 1 l.shares
