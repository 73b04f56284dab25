use Rattle.std.proofs.Common.{refl}
use Rattle.cilk_model.proofs.Printing.{plain_printed, percent_printed}
use Rattle.cilk_model.proofs.laws.formats_are_printed.Goals as goal

pub returns-clause-plain : goal.returns-clause-plain
returns-clause-plain c = plain_printed

pub returns-clause-number : goal.returns-clause-number
returns-clause-number c = λ rest z zs. refl

pub returns-clause-percent : goal.returns-clause-percent
returns-clause-percent c = percent_printed

pub returns-clause-nothing : goal.returns-clause-nothing
returns-clause-nothing c = λ zs. refl
