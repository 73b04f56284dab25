use Rattle.cilk_laws_model.proofs.Synched.{synched_means}
use Rattle.cilk_laws_model.proofs.rule_laws.synched_means_nothing_to_wait_for.Goals as goal

pub returns : goal.returns
returns c = synched_means
