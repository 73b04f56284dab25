use Rattle.cilk_eval.proofs.effects_laws.Heads.{starts, goes_on, ends}
use Rattle.cilk_eval.proofs.soundness.heads_are_there.Goals as goal

pub returns : goal.returns
returns c = record { starts = starts; goes_on = goes_on; ends = ends }
