use Rattle.std.proofs.Common.{◌≡◌, ◌+◌, ◌≤◌, min, drop}
use Rattle.cilk_load_nodes.specs.labelled.Count.{count_items}
use Rattle.cilk_load.proofs.counts.count_items.Given as goal

abbrev pub invariant-loop-item : goal.invariant-loop-item
invariant-loop-item l =
    (l.count ≤ 65536) × (min (l.count + count_items (drop l.item-index l.items)) 65536 ≡ min (count_items l.items) 65536)
