-- What a program must not have: the rules that no grammar says.
use Rattle.std.specs.Prelude.{◌⊎◌}
use Rattle.cilk_tree_syntax.specs.Tree as tree
use Rattle.cilk_check_scopes.specs.declared.fault.CheckFault.{CheckFault}
use Rattle.cilk_check_scopes.specs.Fault.{IsFirst}
use Rattle.cilk_check_scopes.specs.NameFaults as names
use Rattle.cilk_check_scopes.specs.Forms as forms

-- what is wrong in a program, and at which place: with its names, or with its forms
abbrev pub Faulty : tree.Program → CheckFault → Type 0
Faulty p f = names.Faulty p f ⊎ forms.Faulty p f

-- no fault
abbrev pub WellFormed : tree.Program → Type 0
WellFormed p = (f : CheckFault) → ¬ Faulty p f

-- the fault at the least place, and there the one with the least number
abbrev pub IsFirstFault : tree.Program → CheckFault → Type 0
IsFirstFault p f = IsFirst (Faulty p) f
