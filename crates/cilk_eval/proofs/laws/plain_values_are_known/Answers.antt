use Rattle.cilk_eval.proofs.KnownLaws.{plain-value}
use Rattle.cilk_eval.proofs.laws.plain_values_are_known.Goals as goal

pub returns : goal.returns
returns c = plain-value
