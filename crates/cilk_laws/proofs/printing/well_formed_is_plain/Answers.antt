use Rattle.cilk_laws.proofs.Plain.{program_is_plain}
use Rattle.cilk_laws.proofs.printing.well_formed_is_plain.Goals as goal

pub returns : goal.returns
returns c = program_is_plain
