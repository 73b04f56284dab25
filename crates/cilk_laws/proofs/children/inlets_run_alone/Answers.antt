use Rattle.cilk_laws.proofs.Alone.{inlets_run_alone}
use Rattle.cilk_laws.proofs.children.inlets_run_alone.Goals as goal

pub returns : goal.returns
returns c = inlets_run_alone
