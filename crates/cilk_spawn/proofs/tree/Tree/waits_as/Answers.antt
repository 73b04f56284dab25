use Rattle.std.proofs.Common.{◌≡◌, length, arith, refl, below_more}
use Rattle.cilk_spawn.specs.Nodes.{node_at}
use Rattle.cilk_spawn.proofs.Compared.{waiting_is}
use Rattle.cilk_spawn.proofs.tree.Tree.waits_as.Goals as goal

pub returns : goal.returns
returns c = λ e.
    let ds = (node_at c.args.self.now.nodes c.args.id).waiting in
    let es = (node_at c.args.other.now.nodes c.args.to).waiting in
    let long : length ds ≡ length es = omega arith in
    waiting_is c.args.self.now.nodes c.args.other.now.nodes ds es long (λ k lt. c.loop-k.invariant k (omega (arith, lt)))

pub loop-k-preserved : goal.loop-k-preserved
loop-k-preserved c = below_more _ _ c.loop-k.invariant (c.if-not-waits_as_at.ensures refl)
