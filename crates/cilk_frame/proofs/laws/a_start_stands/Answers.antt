use Rattle.cilk_frame.proofs.Steps.{start-stands}
use Rattle.cilk_frame.proofs.laws.a_start_stands.Goals as goal

pub returns : goal.returns
returns c = start-stands
