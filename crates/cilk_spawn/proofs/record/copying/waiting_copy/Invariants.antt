use Rattle.std.proofs.Common.{◌≡◌, take}
use Rattle.cilk_spawn.proofs.record.copying.waiting_copy.Given as goal

abbrev pub invariant-loop-i : goal.invariant-loop-i
invariant-loop-i l = l.made.items ≡ take l.i l.waiting.items
