use Rattle.cilk_explore.proofs.Idles.{idle-at-each}
use Rattle.cilk_explore.proofs.laws.a_worker_is_idle_at_each.Goals as goal

pub returns : goal.returns
returns c = idle-at-each
