-- Machines whose parts tell the same stand at the same.
use Rattle.std.specs.Prelude.{ℕ}
use Rattle.cilk_machine_agree.specs.syntax.Tree.{Program}
use Rattle.cilk_machine_agree.specs.scopes.WellFormed.{WellFormed}
use Rattle.cilk_machine_agree.specs.model.Instance.{Instance}
use Rattle.cilk_machine_agree.specs.model.Run.{Standing}
use Rattle.cilk_machine_agree.specs.runs.Hands.{EachInItsPlace}
use Rattle.cilk_machine_agree.specs.Agrees.{MachineParts, Agrees}
use Rattle.cilk_machine_agree.specs.explore.Same.{Same}
use Rattle.cilk_machine_agree.specs.explore.Names.{SameButNames}
use Rattle.cilk_machine_agree.specs.explore.Alike.{SameParts, SamePartsBut}

abbrev pub SamePartsStandAtTheSame : Type 0
SamePartsStandAtTheSame = (p : Program) (m n : MachineParts) (who other : ℕ → Instance) (a b : Standing) → WellFormed p
    → Agrees p m who a → Agrees p n other b → EachInItsPlace a → SameParts m n → Same a b

-- so do those whose workers have the same by other names, but for these
abbrev pub SamePartsButNamesStandSo : Type 0
SamePartsButNamesStandSo = (p : Program) (m n : MachineParts) (who other : ℕ → Instance) (a b : Standing) → WellFormed p
    → Agrees p m who a → Agrees p n other b → EachInItsPlace a → SamePartsBut m n → SameButNames a b
