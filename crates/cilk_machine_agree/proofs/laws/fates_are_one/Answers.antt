use Rattle.cilk_machine_agree.proofs.One.{fates-are-read, fates-are-one}
use Rattle.cilk_machine_agree.proofs.laws.fates_are_one.Goals as goal

pub returns-clause-read : goal.returns-clause-read
returns-clause-read c = fates-are-read

pub returns-clause-one : goal.returns-clause-one
returns-clause-one c = fates-are-one
