use Rattle.std.proofs.Common.{refl}
use Rattle.std.specs.Fmt.{digits}
use Rattle.cilk_model.proofs.laws.rows_of_calls_come_out.Goals as goal

pub returns-clause-depth : goal.returns-clause-depth
unfolding digits
returns-clause-depth c = refl

pub returns-clause-limit : goal.returns-clause-limit
unfolding digits
returns-clause-limit c = refl

pub returns-clause-arguments : goal.returns-clause-arguments
unfolding digits
returns-clause-arguments c = refl
