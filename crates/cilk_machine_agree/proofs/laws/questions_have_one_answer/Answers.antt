use Rattle.cilk_machine_agree.proofs.Asked.{asked, oldest-told, none-told, placed}
use Rattle.cilk_machine_agree.proofs.laws.questions_have_one_answer.Goals as goal

pub returns : goal.returns
returns c = record { steps = asked; oldest = oldest-told; none = none-told; choices = placed }
