use Rattle.std.proofs.Common.{◌<◌, List, length, refl, sym, ap, ◌∙◌, arith, slice_get}
use Rattle.std.proofs.lemmas.Option.{slice_get_read}
use Rattle.cilk_machine.specs.model.Choice.{Choice}
use Rattle.cilk_explore.proofs.Logs.{logs-length, reads-first, reads-next, reads-all}
use Rattle.cilk_explore.proofs.store.Store.read.Goals as goal

pub loop-at-init : goal.loop-at-init
loop-at-init c =
    let nodes = c.self.inside.nodes.items in
    let size = ap length c.self.view_is in
    let within : c.args.number < length nodes = omega (arith, size, logs-length nodes, c.requires) in
    reads-first nodes c.args.number c.clear.new.self.items within c.clear.ensures.items

pub index-node-requires : goal.index-node-requires
index-node-requires c = omega (arith, c.loop-at.invariant.within, c.self.inside.nodes.ok.0)

pub loop-at-preserved : goal.loop-at-preserved
loop-at-preserved c =
    let nodes = c.self.inside.nodes.items in
    let some : 0 < c.loop-at.at = omega arith in
    reads-next nodes c.args.number c.loop-at.at c.loop-at.log.items c.push.new.self.items _ c.self.invariant.0
    (slice_get_read nodes (length nodes) c.loop-at.at _ refl c.loop-at.invariant.within c.index-node.ensures) some c.loop-at.invariant
    c.in_ok-push.ensures.items

pub loop-at-smaller : goal.loop-at-smaller
loop-at-smaller c =
    let nodes = c.self.inside.nodes.items in
    let some : 0 < c.loop-at.at = omega arith in
    c.self.invariant.0.below c.loop-at.at _ (slice_get_read nodes (length nodes) c.loop-at.at _ refl c.loop-at.invariant.within c.index-node.ensures) some

pub returns : goal.returns
returns c =
    let nodes = c.self.inside.nodes.items in
    ap (λ (logs : List (List Choice)). slice_get logs c.args.number) (sym c.self.view_is)
    ∙ reads-all nodes c.args.number c.loop-at.at c.loop-at.log.items c.reverse.new.self.items c.self.invariant.0 (omega arith) c.loop-at.invariant
    c.reverse.ensures.items
