use Rattle.cilk_machine_step.proofs.Holding.{locks-shown}
use Rattle.cilk_machine_step.proofs.Shown.{accesses-shown}
use Rattle.cilk_machine_step.proofs.cell_laws.accesses_are_shown.Goals as goal

pub returns-clause-cells : goal.returns-clause-cells
returns-clause-cells c t well = accesses-shown t well

pub returns-clause-locks : goal.returns-clause-locks
returns-clause-locks c t = locks-shown t
