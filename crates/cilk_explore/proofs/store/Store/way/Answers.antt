use Rattle.std.proofs.Common.{◌<◌, List, length, refl, sym, ap, subst, arith, map}
use Rattle.std.proofs.lemmas.Option.{slice_get_read}
use Rattle.cilk_machine.specs.model.Choice.{Choice}
use Rattle.cilk_machine.specs.sched.Words.{choice_of}
use Rattle.cilk_explore.specs.Looking.{IsWay}
use Rattle.cilk_explore.proofs.Logs.{ReadsOn, logs-length, reads-first, reads-next, back-first, back-next, way-is}
use Rattle.cilk_explore.proofs.store.Store.way.Goals as goal

pub loop-here-init : goal.loop-here-init
loop-here-init c =
    let nodes = c.self.inside.nodes.items in
    let size = ap length c.self.view_is in
    let left : c.args.from < length nodes = omega (arith, size, logs-length nodes, c.requires.from) in
    let right : c.args.to < length nodes = omega (arith, size, logs-length nodes, c.requires.to) in
    record {
      there = reads-first nodes c.args.to c.clear.new.self.items right c.clear.ensures.items;
      here = back-first nodes c.args.from left;
      far = omega arith;
    }

pub loop-here-preserved : goal.loop-here-preserved
loop-here-preserved c =
    let nodes = c.self.inside.nodes.items in
    let apart = c.loop-here-test.true in
    let order = c.if-here-there.false in
    let some : 0 < c.loop-here.here = omega (arith, apart, order) in
    let old = c.loop-here.invariant in
    let node = slice_get_read nodes (length nodes) c.loop-here.here _ refl old.here.reads.within c.index-node-else-here-there.ensures in
    let below = c.self.invariant.0.below c.loop-here.here _ node some in
    let far = old.far in
    record {
      there = old.there;
      here = back-next nodes c.args.from c.loop-here.here c.loop-here.back _ c.self.invariant.0 node some old.here;
      far = omega (arith, far, below);
    }

pub loop-here-preserved-then-here-there : goal.loop-here-preserved-then-here-there
loop-here-preserved-then-here-there c =
    let nodes = c.self.inside.nodes.items in
    let order = c.if-here-there.true in
    let some : 0 < c.loop-here.there = omega (arith, order) in
    let old = c.loop-here.invariant in
    let node = slice_get_read nodes (length nodes) c.loop-here.there _ refl old.there.within c.index-node.ensures in
    record {
      there = reads-next nodes c.args.to c.loop-here.there c.loop-here.tail.items c.push.new.self.items _ c.self.invariant.0 node some old.there
          c.in_ok-push.ensures.items;
      here = old.here;
      far = old.far;
    }

pub loop-here-smaller : goal.loop-here-smaller
loop-here-smaller c =
    let nodes = c.self.inside.nodes.items in
    let apart = c.loop-here-test.true in
    let order = c.if-here-there.false in
    let some : 0 < c.loop-here.here = omega (arith, apart, order) in
    let old = c.loop-here.invariant in
    let node = slice_get_read nodes (length nodes) c.loop-here.here _ refl old.here.reads.within c.index-node-else-here-there.ensures in
    let below = c.self.invariant.0.below c.loop-here.here _ node some in
    omega (arith, below)

pub returns : goal.returns
returns c =
    let nodes = c.self.inside.nodes.items in
    let same = c.loop-here-test.false in
    let old = c.loop-here.invariant in
    let right = subst (λ k. ReadsOn nodes c.args.to k c.loop-here.tail.items) (sym same) old.there in
    subst (λ (logs : List (List Choice)). IsWay logs c.args.from c.args.to c.loop-here.back (map choice_of c.reverse.new.self.items)) c.self.view_is
    (way-is nodes c.args.from c.args.to c.loop-here.here c.loop-here.back c.loop-here.tail.items c.reverse.new.self.items old.here right
    c.reverse.ensures.items)
