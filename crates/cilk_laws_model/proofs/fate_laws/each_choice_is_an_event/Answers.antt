use Rattle.cilk_laws_model.proofs.Fates.{each_choice_is_an_event}
use Rattle.cilk_laws_model.proofs.fate_laws.each_choice_is_an_event.Goals as goal

pub returns : goal.returns
returns c = each_choice_is_an_event
