use Rattle.cilk_spawn.proofs.Copies.{CopiedTo}
use Rattle.cilk_spawn.proofs.tree.imaging.copies.Given as goal

abbrev pub invariant-loop-record : goal.invariant-loop-record
invariant-loop-record l = CopiedTo l.record-index l.records l.made.items
