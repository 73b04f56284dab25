use Rattle.std.proofs.Common.{refl}
use Rattle.std.specs.Fmt.{digits}
use Rattle.cilk_model.proofs.laws.rows_of_fates_come_out.Goals as goal

pub returns-clause-returned : goal.returns-clause-returned
unfolding digits
returns-clause-returned c = refl

pub returns-clause-delivered : goal.returns-clause-delivered
unfolding digits
returns-clause-delivered c = refl

pub returns-clause-lives : goal.returns-clause-lives
unfolding digits
returns-clause-lives c = refl

pub returns-clause-aborted : goal.returns-clause-aborted
unfolding digits
returns-clause-aborted c = refl

pub returns-clause-never_made : goal.returns-clause-never_made
unfolding digits
returns-clause-never_made c = refl
