use Rattle.std.proofs.Common.{◌∙◌}
use Rattle.cilk_run.proofs.ended.closing.Goals as goal

pub returns-in-Ok-end_now-clause-output : goal.returns-in-Ok-end_now-clause-output
returns-in-Ok-end_now-clause-output c at there = c.new.ensures ∙ (c.in-Ok.ensures.items ∙ c.output.ensures at there)
