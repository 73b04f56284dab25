use Rattle.std.proofs.Common.{◌<◌, ℕ, slice_index_or}
use Rattle.cilk_spawn.specs.Alike.{ArePartners, SameNode}
use Rattle.cilk_spawn.proofs.tree.Tree.all_are_told.Given as goal

abbrev pub invariant-loop-k : goal.invariant-loop-k
invariant-loop-k l = record {
  each : (k : ℕ) → k < l.k → (j : ℕ) × SameNode l.self.nodes l.other.nodes (slice_index_or l.self-inside.living.items k 0) j;
  near : ArePartners l.self.nodes l.other.nodes l.near l.by;
}
