use Rattle.std.proofs.Common.{◌≡◌, ◌<◌, ℕ, Some, slice_get}
use Rattle.cilk_spawn.specs.declared.delivery.Delivery.{Delivery}
use Rattle.cilk_spawn.specs.Nodes.{node_at}
use Rattle.cilk_spawn.specs.Alike.{SameDelivery}
use Rattle.cilk_spawn.proofs.tree.Tree.waits_as.Given as goal

abbrev pub invariant-loop-k : goal.invariant-loop-k
invariant-loop-k l = (k : ℕ) → k < l.k → (d e : Delivery) → slice_get (node_at l.self.nodes l.id).waiting k ≡ Some d
    → slice_get (node_at l.other.nodes l.to).waiting k ≡ Some e → SameDelivery l.self.nodes l.other.nodes d e
