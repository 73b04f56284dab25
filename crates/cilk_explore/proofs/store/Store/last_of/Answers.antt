use Rattle.std.proofs.Common.{length, ap, arith}
use Rattle.cilk_explore.proofs.Logs.{logs-length}
use Rattle.cilk_explore.proofs.store.Store.last_of.Goals as goal

pub returns-then-last-len : goal.returns-then-last-len
returns-then-last-len c =
    let size = ap length c.self.view_is in
    omega (arith, size, logs-length c.self.inside.nodes.items, c.if-last-len.true, c.len.ensures, c.self.inside.nodes.ok.0)
