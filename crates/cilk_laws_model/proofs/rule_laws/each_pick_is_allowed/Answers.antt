use Rattle.cilk_laws_model.proofs.WrittenRules.{each_pick_is_allowed}
use Rattle.cilk_laws_model.proofs.rule_laws.each_pick_is_allowed.Goals as goal

pub returns : goal.returns
returns c = each_pick_is_allowed
