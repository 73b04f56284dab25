-- The first among listed faults: at the least place, and there with the least number.
use Rattle.std.specs.Prelude.{Bool, List, [], ◌∷◌, Option, Some, None, nat_lt, ◌==◌, ◌&&◌, ◌||◌, if◌then◌else◌}
use Rattle.cilk_check_scopes.specs.declared.fault.CheckFault.{CheckFault}
use Rattle.cilk_check_scopes.specs.Fault.{place_of, number_of}

-- whether f stands before g, or at one place with it and has a lesser number
abbrev pub is_before : CheckFault → CheckFault → Bool
is_before f g = nat_lt (place_of f) (place_of g) || (place_of f == place_of g && nat_lt (number_of f) (number_of g))

-- of two faults the one that stands first
abbrev pub first_of : Option CheckFault → CheckFault → CheckFault
first_of None g = g
first_of (Some f) g = if is_before g f then g else f

-- the one that stands first, of one that was found and of others
abbrev pub first_among : Option CheckFault → List CheckFault → Option CheckFault
first_among found [] = found
first_among found (f ∷ fs) = first_among (Some (first_of found f)) fs

-- a fault, if there is one
abbrev pub fault_if : Bool → CheckFault → List CheckFault
fault_if there f = if there then f ∷ [] else []

-- the one of two faults that stands first, where there are any
abbrev pub earlier : Option CheckFault → Option CheckFault → Option CheckFault
earlier found None = found
earlier found (Some f) = first_among found (f ∷ [])
