use Rattle.cilk_machine_undo.proofs.Moments.{machines-tell, machines-go-on}
use Rattle.cilk_machine_undo.proofs.moment_laws.moments_are_told.Goals as goal

pub returns : goal.returns
returns c = record { own = machines-tell; on = machines-go-on }
