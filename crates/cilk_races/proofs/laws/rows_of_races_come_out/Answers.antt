use Rattle.std.proofs.Common.{refl}
use Rattle.cilk_races.proofs.laws.rows_of_races_come_out.Goals as goal

pub returns-clause-alone : goal.returns-clause-alone
returns-clause-alone c = refl

pub returns-clause-mixed : goal.returns-clause-mixed
returns-clause-mixed c = refl
