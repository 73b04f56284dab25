use Rattle.std.proofs.Common.{◌≡◌, drop}
use Rattle.std.specs.List.{flat_map}
use Rattle.cilk_check_scopes.specs.First.{first_among}
use Rattle.cilk_check_scopes.specs.Scopes.{file_declares}
use Rattle.cilk_check_scopes.specs.Declarations.{declaring}
use Rattle.cilk_check.specs.NameFinds.{declaring_faults}
use Rattle.cilk_check.proofs.file.at_items.Given as goal

abbrev pub invariant-loop-item : goal.invariant-loop-item
invariant-loop-item l =
    first_among l.found (flat_map declaring_faults (declaring l.names.innermost (file_declares (drop l.item-index l.items))))
    ≡ first_among l.initial.found (flat_map declaring_faults (declaring l.initial.names.innermost (file_declares l.items)))
