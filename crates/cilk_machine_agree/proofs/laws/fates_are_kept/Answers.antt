use Rattle.cilk_machine_agree.proofs.Kept.{roots-are-fated, fates-are-kept}
use Rattle.cilk_machine_agree.proofs.laws.fates_are_kept.Goals as goal

pub returns-clause-start : goal.returns-clause-start
returns-clause-start c = roots-are-fated

pub returns-clause-kept : goal.returns-clause-kept
returns-clause-kept c = fates-are-kept
