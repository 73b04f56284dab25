use Rattle.std.proofs.Common.{refl}
use Rattle.std.specs.Fmt.{digits}
use Rattle.cilk_races.proofs.measure_laws.rows_of_measures_come_out.Goals as goal

pub returns-clause-lost : goal.returns-clause-lost
unfolding digits
returns-clause-lost c = refl

pub returns-clause-kept : goal.returns-clause-kept
unfolding digits
returns-clause-kept c = refl

pub returns-clause-empty : goal.returns-clause-empty
unfolding digits
returns-clause-empty c = refl
