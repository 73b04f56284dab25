use Rattle.cilk_explore.proofs.Logs.{ReadsOn}
use Rattle.cilk_explore.proofs.store.Store.read.Given as goal

abbrev pub invariant-loop-at : goal.invariant-loop-at
invariant-loop-at l = ReadsOn l.self-inside.nodes.items l.number l.at l.log.items

abbrev pub decreases-loop-at : goal.decreases-loop-at
decreases-loop-at l = l.at
