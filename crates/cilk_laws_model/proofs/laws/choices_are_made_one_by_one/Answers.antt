use Rattle.cilk_model.proofs.Runs.{after-push}
use Rattle.cilk_laws_model.proofs.laws.choices_are_made_one_by_one.Goals as goal

pub returns : goal.returns
returns c = after-push
