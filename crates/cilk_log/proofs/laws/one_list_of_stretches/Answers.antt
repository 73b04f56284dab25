use Rattle.cilk_log.proofs.Stretching.{choices_whole, are_apart, no_other}
use Rattle.cilk_log.proofs.laws.one_list_of_stretches.Goals as goal

pub returns-clause-whole : goal.returns-clause-whole
returns-clause-whole c = choices_whole

pub returns-clause-apart : goal.returns-clause-apart
returns-clause-apart c = are_apart

pub returns-clause-only : goal.returns-clause-only
returns-clause-only c = no_other
