use Rattle.cilk_laws.proofs.Reached.{each_has_head}
use Rattle.cilk_laws.proofs.heads.each_instance_has_a_head.Goals as goal

pub returns : goal.returns
returns c = each_has_head
