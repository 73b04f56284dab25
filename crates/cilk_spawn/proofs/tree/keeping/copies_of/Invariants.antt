use Rattle.cilk_spawn.specs.LivingRecords.{CopiedOf}
use Rattle.cilk_spawn.proofs.tree.keeping.copies_of.Given as goal

abbrev pub invariant-loop-id : goal.invariant-loop-id
invariant-loop-id l = CopiedOf l.id-index l.ids l.records l.made.items
