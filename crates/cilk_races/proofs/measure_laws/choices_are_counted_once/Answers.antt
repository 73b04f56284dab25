use Rattle.cilk_races.proofs.Once.{once}
use Rattle.cilk_races.proofs.measure_laws.choices_are_counted_once.Goals as goal

pub returns : goal.returns
returns c n events steps deeds = once deeds
