-- Where a fault stands, and which of several is told.
use Rattle.std.specs.Prelude.{◌≡◌, ℕ, ◌≤◌}
use Rattle.cilk_check_scopes.specs.declared.fault.CheckFault.{CheckFault}
use Rattle.cilk_check_scopes.specs.declared.fault.CheckFault.TheVariants.{Twice, Unknown, WrongKind, ArgumentCount, VoidValue, NotInProcedure}
use Rattle.cilk_check_scopes.specs.declared.fault.CheckFault.TheVariants.{InletNeedsSpawn, InInlet, AbortOutside, NoLoop, Prototype, NoMain}
use Rattle.cilk_check_scopes.specs.declared.fault.CheckFault.TheVariants.{ReturnForm, Format, Limit, Reserved, Label, Memory}

-- in bytes from the beginning of the text
abbrev pub place_of : CheckFault → ℕ
place_of (Twice at) = at
place_of (Unknown at) = at
place_of (WrongKind at) = at
place_of (ArgumentCount at) = at
place_of (VoidValue at) = at
place_of (NotInProcedure at) = at
place_of (InletNeedsSpawn at) = at
place_of (InInlet at) = at
place_of (AbortOutside at) = at
place_of (NoLoop at) = at
place_of (Prototype at) = at
place_of (NoMain at) = at
place_of (ReturnForm at) = at
place_of (Format at) = at
place_of (Limit at) = at
place_of (Reserved at) = at
place_of (Label at) = at
place_of Memory = 0

-- the number of its code
abbrev pub number_of : CheckFault → ℕ
number_of (Twice at) = 1
number_of (Unknown at) = 2
number_of (WrongKind at) = 3
number_of (ArgumentCount at) = 4
number_of (VoidValue at) = 5
number_of (NotInProcedure at) = 6
number_of (InletNeedsSpawn at) = 7
number_of (InInlet at) = 8
number_of (AbortOutside at) = 9
number_of (NoLoop at) = 10
number_of (Prototype at) = 11
number_of (NoMain at) = 12
number_of (ReturnForm at) = 13
number_of (Format at) = 14
number_of (Limit at) = 15
number_of (Reserved at) = 16
number_of (Label at) = 17
number_of Memory = 0

-- f stands before g, or at one place with it and has no greater number
abbrev pub NoLater : CheckFault → CheckFault → Type 0
NoLater f g = (place_of f ≤ place_of g) × (place_of f ≡ place_of g → number_of f ≤ number_of g)

-- of the faults that a rule tells, the one at the least place, and there the one with the least number
pub record IsFirst (Told : CheckFault → Type 0) (f : CheckFault) : Type 0 where
  pub is_told : Told f
  pub is_first : (g : CheckFault) → Told g → NoLater f g
