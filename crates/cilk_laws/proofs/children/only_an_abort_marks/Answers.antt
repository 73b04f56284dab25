use Rattle.cilk_laws.proofs.Silent.{only_an_abort_marks}
use Rattle.cilk_laws.proofs.children.only_an_abort_marks.Goals as goal

pub returns : goal.returns
returns c = only_an_abort_marks
