use Rattle.cilk_laws.proofs.Marks.{abort_marks}
use Rattle.cilk_laws.proofs.children.abort_marks.Goals as goal

pub returns : goal.returns
returns c = abort_marks
