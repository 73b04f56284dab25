use Rattle.std.proofs.Common.{length, ap, arith}
use Rattle.cilk_explore.proofs.Logs.{logs-length}
use Rattle.cilk_explore.proofs.store.Store.before.Goals as goal

pub returns-then-before-number-clause-there : goal.returns-then-before-number-clause-there
returns-then-before-number-clause-there c =
    let size = ap length c.self.view_is in
    omega (arith, size, logs-length c.self.inside.nodes.items, c.if-before-number.true, c.self.inside.nodes.ok.0)
