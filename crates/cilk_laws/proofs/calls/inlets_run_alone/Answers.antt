use Rattle.cilk_laws.proofs.CallRuns.{inlets_run_alone}
use Rattle.cilk_laws.proofs.calls.inlets_run_alone.Goals as goal

pub returns : goal.returns
returns c = inlets_run_alone
