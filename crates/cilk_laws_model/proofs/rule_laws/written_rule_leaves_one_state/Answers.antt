use Rattle.cilk_laws_model.proofs.OneState.{rule_leaves_one_state}
use Rattle.cilk_laws_model.proofs.rule_laws.written_rule_leaves_one_state.Goals as goal

pub returns : goal.returns
returns c = rule_leaves_one_state
