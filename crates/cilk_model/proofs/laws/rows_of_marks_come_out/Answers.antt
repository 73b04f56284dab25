use Rattle.std.proofs.Common.{refl}
use Rattle.std.specs.Fmt.{digits}
use Rattle.cilk_model.proofs.laws.rows_of_marks_come_out.Goals as goal

pub returns-clause-ends : goal.returns-clause-ends
unfolding digits
returns-clause-ends c = refl

pub returns-clause-grandchild : goal.returns-clause-grandchild
unfolding digits
returns-clause-grandchild c = refl

pub returns-clause-child : goal.returns-clause-child
unfolding digits
returns-clause-child c = refl

pub returns-clause-live : goal.returns-clause-live
unfolding digits
returns-clause-live c = refl
