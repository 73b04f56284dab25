use Rattle.cilk_laws_model.proofs.Forced.{each_wait_is_forced}
use Rattle.cilk_laws_model.proofs.rule_laws.each_wait_is_forced.Goals as goal

pub returns : goal.returns
returns c = each_wait_is_forced
