use Rattle.std.proofs.Common.{refl}
use Rattle.std.specs.Fmt.{digits}
use Rattle.cilk_model.proofs.laws.rows_of_deliveries_come_out.Goals as goal

pub returns-clause-early : goal.returns-clause-early
unfolding digits
returns-clause-early c = refl

pub returns-clause-late : goal.returns-clause-late
unfolding digits
returns-clause-late c = refl

pub returns-clause-taken : goal.returns-clause-taken
unfolding digits
returns-clause-taken c = refl

pub returns-clause-overflow : goal.returns-clause-overflow
unfolding digits
returns-clause-overflow c = refl

pub returns-clause-old_value_first : goal.returns-clause-old_value_first
unfolding digits
returns-clause-old_value_first c = refl
