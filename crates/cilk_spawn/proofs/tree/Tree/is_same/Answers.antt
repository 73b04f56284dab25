use Rattle.std.proofs.Common.{◌≡◌, length, arith}
use Rattle.cilk_spawn.proofs.Counted.{as_many_told}
use Rattle.cilk_spawn.proofs.tree.Tree.is_same.Goals as goal

pub returns-then-len : goal.returns-then-len
returns-then-len c = λ e.
    let ids = c.self.inside.living.items in
    let others = c.other.inside.living.items in
    let long = c.self.inside.living.ok.0 in
    let far = c.other.inside.living.ok.0 in
    let count : length ids ≡ length others = omega (arith, long, far, c.len.ensures, c.len-2.ensures, c.if-len.true) in
    as_many_told c.self.inside.records.items c.other.inside.records.items ids others c.args.self.now c.args.other.now c.self.view_is c.other.view_is
    c.self.invariant c.other.invariant count (c.all_are_told.ensures e)
