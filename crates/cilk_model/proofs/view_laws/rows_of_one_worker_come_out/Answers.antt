use Rattle.std.proofs.Common.{refl}
use Rattle.std.specs.Fmt.{digits}
use Rattle.cilk_model.proofs.view_laws.rows_of_one_worker_come_out.Goals as goal

pub returns-clause-first : goal.returns-clause-first
unfolding digits
returns-clause-first c = refl

pub returns-clause-second : goal.returns-clause-second
unfolding digits
returns-clause-second c = refl

pub returns-clause-frame : goal.returns-clause-frame
unfolding digits
returns-clause-frame c = refl

pub returns-clause-last : goal.returns-clause-last
unfolding digits
returns-clause-last c = refl

pub returns-clause-gone : goal.returns-clause-gone
unfolding digits
returns-clause-gone c = refl

pub returns-clause-list : goal.returns-clause-list
unfolding digits
returns-clause-list c = refl
