use Rattle.std.proofs.Common.{◌≡◌, drop}
use Rattle.std.specs.List.{flat_map}
use Rattle.cilk_check_scopes.specs.First.{first_among}
use Rattle.cilk_check_scopes.specs.Scopes.{file_declares}
use Rattle.cilk_check.specs.FormFinds.{length_faults}
use Rattle.cilk_check.proofs.forms_of_top.at_lengths.Given as goal

abbrev pub invariant-loop-item : goal.invariant-loop-item
invariant-loop-item l =
    first_among l.found (flat_map length_faults (file_declares (drop l.item-index l.items)))
    ≡ first_among l.initial.found (flat_map length_faults (file_declares l.items))
