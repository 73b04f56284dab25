use Rattle.std.proofs.Common.{length, sym, ap, ◌∙◌}
use Rattle.cilk_explore.specs.Links.{Linkage}
use Rattle.cilk_explore.proofs.LinkLists.{past-length}
use Rattle.cilk_explore.proofs.links.Links.len.Goals as goal

pub returns : goal.returns
returns c =
    c.len.ensures ∙ c.self.inside.ends.ok.0 ∙ sym (past-length 0 c.self.inside.ends.items c.self.inside.numbers.items)
    ∙ ap (λ (l : Linkage). length l.past) c.self.view_is
