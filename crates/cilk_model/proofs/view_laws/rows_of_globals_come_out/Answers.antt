use Rattle.std.proofs.Common.{refl}
use Rattle.std.specs.Fmt.{digits}
use Rattle.cilk_model.proofs.view_laws.rows_of_globals_come_out.Goals as goal

pub returns-clause-unset : goal.returns-clause-unset
unfolding digits
returns-clause-unset c = refl

pub returns-clause-free : goal.returns-clause-free
unfolding digits
returns-clause-free c = refl

pub returns-clause-held : goal.returns-clause-held
unfolding digits
returns-clause-held c = refl

pub returns-clause-array : goal.returns-clause-array
unfolding digits
returns-clause-array c = refl
