use Rattle.cilk_laws_model.proofs.Heads.{each_has_head}
use Rattle.cilk_laws_model.proofs.laws.each_instance_has_a_head.Goals as goal

pub returns : goal.returns
returns c = each_has_head
