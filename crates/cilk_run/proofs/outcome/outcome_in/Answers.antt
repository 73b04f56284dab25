use Rattle.std.proofs.Common.{◌∙◌}
use Rattle.cilk_run.proofs.outcome.outcome_in.Goals as goal

pub returns-in-Ok-words_at-clause-printed : goal.returns-in-Ok-words_at-clause-printed
returns-in-Ok-words_at-clause-printed c at there = c.in-Ok.ensures.items ∙ c.output.ensures at there
