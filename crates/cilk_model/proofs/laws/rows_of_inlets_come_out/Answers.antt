use Rattle.std.proofs.Common.{refl}
use Rattle.std.specs.Fmt.{digits}
use Rattle.cilk_model.proofs.laws.rows_of_inlets_come_out.Goals as goal

pub returns-clause-stops : goal.returns-clause-stops
unfolding digits
returns-clause-stops c = refl

pub returns-clause-both : goal.returns-clause-both
unfolding digits
returns-clause-both c = refl

pub returns-clause-woken : goal.returns-clause-woken
unfolding digits
returns-clause-woken c = refl

pub returns-clause-others_last : goal.returns-clause-others_last
unfolding digits
returns-clause-others_last c = refl

pub returns-clause-array : goal.returns-clause-array
unfolding digits
returns-clause-array c = refl
