use Rattle.cilk_machine_agree.proofs.explore.Idle.{idle_do_alike}
use Rattle.cilk_machine_agree.proofs.search_laws.idle_workers_do_alike.Goals as goal

pub returns : goal.returns
returns c = idle_do_alike
