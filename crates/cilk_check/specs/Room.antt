-- What is left of a limit of cells behind some declarations, and the first fault by then.
use Rattle.std.specs.Prelude.{ℕ, List, [], ◌∷◌, ◌-◌, nat_le, if◌then◌else◌, Option, Some, None}
use Rattle.cilk_check_scopes.specs.declared.fault.CheckFault.{CheckFault}
use Rattle.cilk_check_scopes.specs.declared.fault.CheckFault.TheVariants.{Limit}
use Rattle.cilk_check_scopes.specs.First.{first_among}
use Rattle.cilk_check_scopes.specs.Scopes.{Declared}
use Rattle.cilk_check.specs.declared.space.Room.{Room}
use Rattle.cilk_check_scopes.specs.Cells.{cells_of}

abbrev pub taken : Option ℕ → Option CheckFault → ℕ → ℕ → Room
taken None found n at = record { left = None; found = found }
taken (Some left) found n at =
    if nat_le n left then record { left = Some (left - n); found = found } else record { left = None; found = first_among found (Limit at ∷ []) }

-- behind a declaration of n cells whose name stands at this place
abbrev pub take_from : Room → ℕ → ℕ → Room
take_from room n at = taken room.left room.found n at

-- behind these declarations
abbrev pub behind : Room → List Declared → Room
behind room [] = room
behind room (d ∷ ds) = behind (take_from room (cells_of d.kind) d.name.place) ds
