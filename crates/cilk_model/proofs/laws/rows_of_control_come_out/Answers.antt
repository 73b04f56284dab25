use Rattle.std.proofs.Common.{refl}
use Rattle.std.specs.Fmt.{digits}
use Rattle.cilk_model.proofs.laws.rows_of_control_come_out.Goals as goal

pub returns-clause-rounds : goal.returns-clause-rounds
unfolding digits
returns-clause-rounds c = refl

pub returns-clause-array : goal.returns-clause-array
unfolding digits
returns-clause-array c = refl

pub returns-clause-index : goal.returns-clause-index
unfolding digits
returns-clause-index c = refl

pub returns-clause-call : goal.returns-clause-call
unfolding digits
returns-clause-call c = refl

pub returns-clause-prints : goal.returns-clause-prints
unfolding digits
returns-clause-prints c = refl

pub returns-clause-turns : goal.returns-clause-turns
unfolding digits
returns-clause-turns c = refl

pub returns-clause-turns_on : goal.returns-clause-turns_on
unfolding digits
returns-clause-turns_on c = refl

pub returns-clause-hides : goal.returns-clause-hides
unfolding digits
returns-clause-hides c = refl
