use Rattle.cilk_eval.proofs.effects_laws.KnownActions.{leaves, begins, follows, empties}
use Rattle.cilk_eval.proofs.soundness.bodies_go_on.Goals as goal

pub returns : goal.returns
returns c = record { leaves = leaves; begins = begins; follows = follows; empties = empties }
