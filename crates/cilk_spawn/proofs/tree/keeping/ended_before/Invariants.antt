use Rattle.std.proofs.Common.{◌≡◌, map, take}
use Rattle.cilk_spawn.specs.LivingRecords.{cut_record}
use Rattle.cilk_spawn.proofs.tree.keeping.ended_before.Given as goal

abbrev pub invariant-loop-i : goal.invariant-loop-i
invariant-loop-i l = l.made.items ≡ map (cut_record l.choice) (take l.i l.later)
