use Rattle.cilk_laws_model.proofs.RuleKept.{keeps_rule}
use Rattle.cilk_laws_model.proofs.rule_laws.each_choice_keeps_the_rule.Goals as goal

pub returns : goal.returns
returns c = keeps_rule
