use Rattle.cilk_laws.proofs.CallRuns.{each_inlet_starts}
use Rattle.cilk_laws.proofs.calls.each_inlet_starts.Goals as goal

pub returns : goal.returns
returns c = each_inlet_starts
