use Rattle.cilk_machine_agree.proofs.Opens.{opening-agrees}
use Rattle.cilk_machine_agree.proofs.Found.{read-agrees}
use Rattle.cilk_machine_agree.proofs.laws.the_opening_agrees.Goals as goal

pub returns : goal.returns
returns c = record { opening = opening-agrees; nothing_is_hidden = read-agrees }
