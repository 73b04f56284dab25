use Rattle.cilk_spawn.specs.LivingRecords.{PutTo}
use Rattle.cilk_spawn.proofs.tree.keeping.put_living.Given as goal

abbrev pub invariant-loop-k : goal.invariant-loop-k
invariant-loop-k l = PutTo l.k l.ids l.records l.initial.made.items l.made.items
