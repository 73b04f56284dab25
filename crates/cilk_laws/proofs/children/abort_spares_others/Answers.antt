use Rattle.cilk_laws.proofs.Marks.{abort_spares_others}
use Rattle.cilk_laws.proofs.children.abort_spares_others.Goals as goal

pub returns : goal.returns
returns c = abort_spares_others
