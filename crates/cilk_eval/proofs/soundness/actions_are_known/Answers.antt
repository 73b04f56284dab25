use Rattle.cilk_eval.proofs.effects_laws.KnownActions.{actions, heads}
use Rattle.cilk_eval.proofs.soundness.actions_are_known.Goals as goal

pub returns : goal.returns
returns c = record { actions = actions; heads = heads }
