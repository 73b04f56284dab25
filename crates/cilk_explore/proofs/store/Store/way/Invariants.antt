use Rattle.std.proofs.Common.{◌≤◌, ◌+◌}
use Rattle.cilk_explore.proofs.Logs.{ReadsOn, ReadsBack}
use Rattle.cilk_explore.proofs.store.Store.way.Given as goal

abbrev pub invariant-loop-here : goal.invariant-loop-here
invariant-loop-here l = record {
  there : ReadsOn l.self-inside.nodes.items l.to l.there l.tail.items;
  here : ReadsBack l.self-inside.nodes.items l.from l.here l.back;
  far : l.back + l.here ≤ l.from;
}

abbrev pub decreases-loop-here : goal.decreases-loop-here
decreases-loop-here l = l.here + l.there
