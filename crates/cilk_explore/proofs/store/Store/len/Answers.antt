use Rattle.std.proofs.Common.{length, sym, ap, ◌∙◌}
use Rattle.cilk_explore.proofs.Logs.{logs-length}
use Rattle.cilk_explore.proofs.store.Store.len.Goals as goal

pub returns : goal.returns
returns c =
    c.len.ensures ∙ c.self.inside.nodes.ok.0 ∙ sym (logs-length c.self.inside.nodes.items) ∙ ap length c.self.view_is
