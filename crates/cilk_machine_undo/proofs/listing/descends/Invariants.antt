use Rattle.std.proofs.Common.{◌≡◌, ◌<◌, length}
use Rattle.cilk_machine_plan.specs.spawn.Nodes.{descends}
use Rattle.cilk_machine_undo.proofs.listing.descends.Given as goal

abbrev pub invariant-loop-parent : goal.invariant-loop-parent
invariant-loop-parent l = record {
  there : l.at < length l.tree.nodes;
  same : descends l.tree.nodes l.id l.at ≡ descends l.fn.tree.nodes l.fn.id l.fn.from;
}

abbrev pub decreases-loop-parent : goal.decreases-loop-parent
decreases-loop-parent l = l.at
