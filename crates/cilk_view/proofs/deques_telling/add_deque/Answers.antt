use Rattle.std.proofs.Common.{arith}
use Rattle.cilk_machine_agree.specs.model.Hands.{deque_of}
use Rattle.cilk_view.proofs.Tellings.{queued_told}
use Rattle.cilk_view.proofs.deques_telling.add_deque.Goals as goal

pub loop-i-preserved : goal.loop-i-preserved
loop-i-preserved c = (
  λ all. c.in_ok-add_queued.ensures.named (c.loop-i.invariant.0 all),
  queued_told c.args.shown.now.tree.now.nodes c.args.links.now (deque_of c.args.shown.now.hands.now c.args.worker) c.loop-i.entries.items
      c.add_queued.new.entries.items c.loop-i.i _ (omega (arith, c.loop-i-test.true, c.len-i-end.ensures)) c.in_ok-add_queued.ensures c.loop-i.invariant.1,
)
