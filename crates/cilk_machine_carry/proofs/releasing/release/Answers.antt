use Rattle.cilk_machine_plan.specs.agree.Laws.{released}
use Rattle.cilk_machine_carry.proofs.Released.{one-more}
use Rattle.cilk_machine_carry.proofs.releasing.release.Goals as goal

pub loop-lock-preserved : goal.loop-lock-preserved
loop-lock-preserved c =
    one-more (released c.args.id) c.loop-lock.lock-items c.args.locks.now.items c.loop-lock.lock-index c.released.result _
    c.loop-lock.invariant c.released.ensures
