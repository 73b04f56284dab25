use Rattle.std.proofs.Common.{false}
use Rattle.cilk_eval.proofs.effects_laws.Printed.{byte-put, percent-put}
use Rattle.cilk_eval.proofs.printing.printed.Goals as goal

pub loop-first-preserved-then-first-eq37 : goal.loop-first-preserved-then-first-eq37
loop-first-preserved-then-first-eq37 c =
    percent-put _ c.loop-first.bytes.items c.put_percent.new.bytes.items c.loop-first.rest.now c.in-Some.others.now
    c.in-Some-split_first.behind.now c.in-Some.first.now
    c.in-Some-split_first.second.now c.loop-first.left.now c.in_ok-left-in-Some-split_first.left.now c.loop-first.invariant
    c.in-Some.ensures.cases.0 c.in-Some-split_first.ensures.cases.0 c.if-first-eq37.true
    (c.in_ok-left-in-Some-split_first.ensures c.in-Some-split_first.behind.now)

pub loop-first-preserved-in-Some-2 : goal.loop-first-preserved-in-Some-2
loop-first-preserved-in-Some-2 c =
    byte-put _ c.loop-first.bytes.items c.push.new.self.items c.loop-first.rest.now c.in-Some.others.now c.in-Some-split_first.behind.now c.in-Some.first.now
    c.in-Some-split_first.second.now c.loop-first.left.now c.in_ok-push-in-Some-2.ensures.items c.loop-first.invariant
    c.in-Some.ensures.cases.0 c.in-Some-split_first.ensures.cases.0 c.if-first-eq37.false
