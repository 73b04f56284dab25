use Rattle.std.proofs.Common.{refl}
use Rattle.std.specs.Fmt.{digits}
use Rattle.cilk_model.proofs.laws.rows_of_switches_come_out.Goals as goal

pub returns-clause-labels : goal.returns-clause-labels
unfolding digits
returns-clause-labels c = refl

pub returns-clause-jumps : goal.returns-clause-jumps
unfolding digits
returns-clause-jumps c = refl
