use Rattle.cilk_eval.proofs.effects_laws.Before.{before, takes}
use Rattle.cilk_eval.proofs.effects_laws.Meant.{around_of}
use Rattle.cilk_eval.proofs.soundness.frames_have_actions.Goals as goal

pub returns : goal.returns
returns c = record { before = before; takes = takes; around = around_of }
