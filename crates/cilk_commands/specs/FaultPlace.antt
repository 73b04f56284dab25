-- Where a fault of a text is.
use Rattle.std.specs.Prelude.{ℕ}
use Rattle.cilk_check_explain.specs.parse.FaultPlace.{place_of as read_place}
use Rattle.cilk_load.specs.scopes.Fault.{place_of as check_place}
use Rattle.cilk_commands.specs.declared.fault.Fault.{Fault}
use Rattle.cilk_commands.specs.declared.fault.Fault.TheVariants.{Read, Check}

-- the place of its first byte, in bytes from the beginning of the text
abbrev pub place_of : Fault → ℕ
place_of (Read fault) = read_place fault
place_of (Check fault) = check_place fault
