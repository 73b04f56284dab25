use Rattle.std.proofs.Common.{◌||◌, ◌∙◌}
use Rattle.cilk_run.proofs.choosing.can_move.Goals as goal

pub returns : goal.returns
returns c = λ at s. c.any.ensures ∙ (λ i. c.can-steps.ensures at s i || (c.can-pops.ensures at s i || c.in_ok-steals.ensures at s i))
