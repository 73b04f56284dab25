use Rattle.std.proofs.Common.{◌≡◌, drop, map}
use Rattle.std.specs.List.{flat_map}
use Rattle.cilk_check_scopes.specs.First.{first_among}
use Rattle.cilk_check_scopes.specs.Scopes.{declare_all, parameter}
use Rattle.cilk_check_scopes.specs.Declarations.{declaring}
use Rattle.cilk_check.specs.NameFinds.{declaring_faults}
use Rattle.cilk_check.proofs.names_of_walk.at_names.Given as goal

abbrev pub invariant-loop-name : goal.invariant-loop-name
invariant-loop-name l =
    (first_among l.found (flat_map declaring_faults (declaring l.names.innermost (map parameter (drop l.name-index l.parameters))))
    ≡ first_among l.initial.found (flat_map declaring_faults (declaring l.initial.names.innermost (map parameter l.parameters))))
    × (declare_all l.names (map parameter (drop l.name-index l.parameters)) ≡ declare_all l.initial.names (map parameter l.parameters))
