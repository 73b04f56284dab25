use Rattle.std.proofs.Common.{◌≡◌, drop}
use Rattle.std.specs.List.{flat_map}
use Rattle.cilk_check_scopes.specs.First.{first_among}
use Rattle.cilk_check.specs.NameFinds.{prototype_faults}
use Rattle.cilk_check.proofs.prototypes.at_prototypes.Given as goal

abbrev pub invariant-loop-item : goal.invariant-loop-item
invariant-loop-item l =
    first_among l.found (flat_map (prototype_faults l.items) (drop l.item-index l.items))
    ≡ first_among l.initial.found (flat_map (prototype_faults l.items) l.items)
