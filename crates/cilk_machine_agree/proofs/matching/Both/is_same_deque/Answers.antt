use Rattle.std.proofs.Common.{◌≡◌, length, refl, arith, below_more}
use Rattle.cilk_machine_agree.specs.model.Hands.{deque_of}
use Rattle.cilk_machine_agree.proofs.Sames.{deque_same}
use Rattle.cilk_machine_agree.proofs.matching.Both.is_same_deque.Goals as goal

pub is_same_queued-requires-clause-above : goal.is_same_queued-requires-clause-above
is_same_queued-requires-clause-above c = λ i next. c.loop-k.invariant i (omega (arith, next))

pub loop-k-preserved : goal.loop-k-preserved
loop-k-preserved c = below_more _ _ c.loop-k.invariant (c.if-not-is_same_queued.ensures refl)

pub returns : goal.returns
returns c = λ e.
    let fs = deque_of c.args.self.now.hands.now c.args.worker in
    let gs = deque_of c.args.self.now.others.now c.args.to in
    let long : length fs ≡ length gs = omega arith in
    deque_same c.args.self.now.tree.now.nodes c.args.self.now.other.now.nodes fs gs long (λ k lt. c.loop-k.invariant k (omega (arith, long)))
