use Rattle.cilk_laws_model.proofs.Waiting.{some_choice}
use Rattle.cilk_laws_model.proofs.laws.some_choice_is_possible.Goals as goal

pub returns : goal.returns
returns c = some_choice
