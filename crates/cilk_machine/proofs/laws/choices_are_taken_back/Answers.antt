use Rattle.cilk_machine.proofs.Again.{as-it-was}
use Rattle.cilk_machine.proofs.laws.choices_are_taken_back.Goals as goal

pub returns : goal.returns
returns c = as-it-was
