use Rattle.std.proofs.Common.{refl}
use Rattle.std.specs.Fmt.{digits}
use Rattle.cilk_model.proofs.view_laws.rows_of_places_come_out.Goals as goal

pub returns-clause-queued : goal.returns-clause-queued
unfolding digits
returns-clause-queued c = refl

pub returns-clause-parked : goal.returns-clause-parked
unfolding digits
returns-clause-parked c = refl

pub returns-clause-waiting : goal.returns-clause-waiting
unfolding digits
returns-clause-waiting c = refl

pub returns-clause-ordered : goal.returns-clause-ordered
unfolding digits
returns-clause-ordered c = refl

pub returns-clause-deep : goal.returns-clause-deep
unfolding digits
returns-clause-deep c = refl

pub returns-clause-stolen : goal.returns-clause-stolen
unfolding digits
returns-clause-stolen c = refl

pub returns-clause-where_lines : goal.returns-clause-where_lines
unfolding digits
returns-clause-where_lines c = refl
