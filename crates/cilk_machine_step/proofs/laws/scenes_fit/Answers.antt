use Rattle.cilk_machine_step.proofs.Fits.{head-fits}
use Rattle.cilk_machine_step.proofs.laws.scenes_fit.Goals as goal

pub returns-clause-fits : goal.returns-clause-fits
returns-clause-fits c t well = head-fits t well
