use Rattle.cilk_laws_model.proofs.Kept.{places_are_kept}
use Rattle.cilk_laws_model.proofs.laws.each_instance_is_in_its_place.Goals as goal

pub returns : goal.returns
returns c = places_are_kept
