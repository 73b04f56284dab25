use Rattle.cilk_frame.proofs.nodes_laws.Environments.{value_of-rename, value_of-same}
use Rattle.cilk_eval.proofs.laws.value_is_of_what_is_read.Goals as goal

pub returns : goal.returns
returns g c = record { renamed = value_of-rename; same = value_of-same }
