use Rattle.std.proofs.Common.{◌≡◌, drop}
use Rattle.std.specs.List.{flat_map}
use Rattle.cilk_check_scopes.specs.First.{first_among}
use Rattle.cilk_check.specs.NameFinds.{item_faults}
use Rattle.cilk_check.proofs.names_of_top.in_items.Given as goal

abbrev pub invariant-loop-item : goal.invariant-loop-item
invariant-loop-item l =
    (first_among l.found (flat_map (item_faults l.names) (drop l.item-index l.items))
    ≡ first_among l.initial.found (flat_map (item_faults l.initial.names) l.items))
    × (l.names ≡ l.initial.names)
