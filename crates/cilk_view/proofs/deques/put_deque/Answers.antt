use Rattle.std.proofs.Common.{arith}
use Rattle.cilk_view.proofs.Lists.{one_queued}
use Rattle.cilk_view.proofs.deques.put_deque.Goals as goal

pub loop-i-preserved : goal.loop-i-preserved
loop-i-preserved c = one_queued _ _ c.loop-i.i _ _ _ (omega (arith, c.loop-i-test.true, c.len-i-end.ensures)) c.in_ok-put_queued.ensures c.loop-i.invariant
