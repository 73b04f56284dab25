use Rattle.std.proofs.Common.{refl}
use Rattle.std.specs.Fmt.{digits}
use Rattle.cilk_model.proofs.laws.rows_of_locks_come_out.Goals as goal

pub returns-clause-held : goal.returns-clause-held
unfolding digits
returns-clause-held c = refl

pub returns-clause-stuck : goal.returns-clause-stuck
unfolding digits
returns-clause-stuck c = refl

pub returns-clause-taken_twice : goal.returns-clause-taken_twice
unfolding digits
returns-clause-taken_twice c = refl

pub returns-clause-never_made : goal.returns-clause-never_made
unfolding digits
returns-clause-never_made c = refl
