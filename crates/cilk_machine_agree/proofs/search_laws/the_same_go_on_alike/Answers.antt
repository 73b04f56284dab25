use Rattle.cilk_machine_agree.proofs.explore.Onward.{the_same_go_on_alike}
use Rattle.cilk_machine_agree.proofs.search_laws.the_same_go_on_alike.Goals as goal

pub returns : goal.returns
returns c = the_same_go_on_alike
