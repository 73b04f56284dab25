use Rattle.cilk_laws_model.proofs.RuleKept.{each_in_order}
use Rattle.cilk_laws_model.proofs.rule_laws.each_state_is_in_order.Goals as goal

pub returns : goal.returns
returns c = each_in_order
