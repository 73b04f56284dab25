use Rattle.cilk_laws.proofs.Starts.{each_inlet_starts}
use Rattle.cilk_laws.proofs.children.each_inlet_starts.Goals as goal

pub returns : goal.returns
returns c = each_inlet_starts
