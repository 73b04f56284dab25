use Rattle.cilk_laws_model.proofs.Limits.{limits_are_kept}
use Rattle.cilk_laws_model.proofs.laws.limits_are_kept.Goals as goal

pub returns : goal.returns
returns c = limits_are_kept
