use Rattle.cilk_eval.proofs.effects_laws.ReachedCells.{reached_has}
use Rattle.cilk_eval.proofs.soundness.reached_cells_are_there.Goals as goal

pub returns : goal.returns
returns c = λ program b cells store place reached s known is. reached_has program b cells store s place reached known is
