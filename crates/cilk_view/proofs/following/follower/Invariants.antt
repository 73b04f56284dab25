use Rattle.std.proofs.Common.{◌≡◌, ◌<◌, List, length}
use Rattle.cilk_machine_agree.specs.spawn.Nodes.{Node, IsTree}
use Rattle.cilk_view.specs.Ups.{links_of}
use Rattle.cilk_view.specs.Kin.{KinSorted}
use Rattle.cilk_view.proofs.Ahead.{Walks}
use Rattle.cilk_view.proofs.following.follower.Given as goal

abbrev pub invariant-loop-child : goal.invariant-loop-child
invariant-loop-child l =
    (ns : List Node) → IsTree ns → l.links ≡ links_of ns → KinSorted ns l.kin → l.fn.id < length ns
    → (l.at < length ns) × Walks ns l.fn.id l.at l.after

abbrev pub decreases-loop-child : goal.decreases-loop-child
decreases-loop-child l = l.at
