-- Where the words `spawn`, `sync` and `SYNCHED` may not stand (Cilk 5.4 manual, `cilk`, `inlet`).
use Rattle.std.specs.Prelude.{ℕ, List, [], ◌∷◌}
use Rattle.cilk_check_scopes.specs.declared.fault.CheckFault.{CheckFault}
use Rattle.cilk_check_scopes.specs.declared.fault.CheckFault.TheVariants.{NotInProcedure, InInlet}
use Rattle.cilk_check_scopes.specs.declared.owner.Owner.{Owner}
use Rattle.cilk_check_scopes.specs.declared.owner.Owner.TheVariants as owner

-- of the word `spawn`, `sync` or `SYNCHED` at this place in a body
abbrev pub word_faults : Owner → ℕ → List CheckFault
word_faults (owner.Function returns) at = NotInProcedure at ∷ []
word_faults (owner.Procedure returns) at = []
word_faults owner.Inlet at = InInlet at ∷ []
