use Rattle.cilk_laws.proofs.Alone.{others_leave_an_inlet}
use Rattle.cilk_laws.proofs.children.others_leave_an_inlet.Goals as goal

pub returns : goal.returns
returns c = others_leave_an_inlet
