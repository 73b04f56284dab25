use Rattle.std.proofs.Common.{arith}
use Rattle.cilk_machine_agree.proofs.Matches.{matched_none, matched_more, matched_all}
use Rattle.cilk_machine_agree.proofs.matching.Both.match_by.Goals as goal

pub loop-k-init : goal.loop-k-init
loop-k-init c =
    matched_none c.args.self.now.tree.now.nodes c.args.self.now.other.now.nodes c.args.self.now.hands.now c.args.self.now.others.now c.put_numbers.new.order
    (omega arith) c.put_numbers.ensures.numbers

pub find-requires-clause-here : goal.find-requires-clause-here
find-requires-clause-here c = c.loop-k.invariant.within

pub loop-k-preserved : goal.loop-k-preserved
loop-k-preserved c =
    matched_more c.args.self.now.tree.now.nodes c.args.self.now.other.now.nodes c.args.self.now.hands.now c.args.self.now.others.now c.loop-k.order
    c.swap.new.self c.loop-k.k c.in-Some.j c.loop-k.invariant (omega (arith, c.in-Some.ensures.left)) c.swap.ensures.permutation c.swap.ensures.by_index
    (record { hand = c.in-Some.ensures.hand; deque = c.in-Some.ensures.deque })

pub returns : goal.returns
returns c = λ e.
    matched_all c.args.self.now.tree.now.nodes c.args.self.now.other.now.nodes c.args.self.now.hands.now c.args.self.now.others.now c.loop-k.order c.loop-k.k
    (omega arith) (omega arith) c.loop-k.invariant
