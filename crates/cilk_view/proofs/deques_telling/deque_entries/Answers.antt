use Rattle.std.proofs.Common.{arith}
use Rattle.cilk_view.proofs.Tellings.{place_told}
use Rattle.cilk_view.proofs.deques_telling.deque_entries.Goals as goal

pub loop-before-preserved : goal.loop-before-preserved
loop-before-preserved c = (
  c.in_ok-add_place.ensures.named c.loop-before.invariant.0,
  place_told c.args.shown.now.tree.now.nodes c.args.links.now c.args.shown.now.hands.now c.loop-before.entries.items c.add_place.new.entries.items
      c.loop-before.before _ c.in_ok-add_place.ensures (omega (arith, c.loop-before-test.true, c.requires.workers)) c.loop-before.invariant.1,
)
