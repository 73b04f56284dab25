use Rattle.std.proofs.Common.{refl}
use Rattle.std.specs.Fmt.{digits}
use Rattle.cilk_model.proofs.view_laws.rows_of_two_workers_come_out.Goals as goal

pub returns-clause-tree : goal.returns-clause-tree
unfolding digits
returns-clause-tree c = refl

pub returns-clause-aborted : goal.returns-clause-aborted
unfolding digits
returns-clause-aborted c = refl

pub returns-clause-frame : goal.returns-clause-frame
unfolding digits
returns-clause-frame c = refl

pub returns-clause-deques : goal.returns-clause-deques
unfolding digits
returns-clause-deques c = refl

pub returns-clause-globals : goal.returns-clause-globals
unfolding digits
returns-clause-globals c = refl

pub returns-clause-output : goal.returns-clause-output
unfolding digits
returns-clause-output c = refl

pub returns-clause-ends : goal.returns-clause-ends
unfolding digits
returns-clause-ends c = refl
