use Rattle.std.proofs.Common.{length, sym, ap, ◌∙◌}
use Rattle.std.proofs.lemmas.List.{length-map}
use Rattle.cilk_machine.specs.sched.Words.{choice_of}
use Rattle.cilk_explore.specs.Walks.{Walk}
use Rattle.cilk_explore.proofs.walker.Walker.len.Goals as goal

pub returns : goal.returns
returns c =
    c.len.ensures ∙ c.self.inside.log.ok.0 ∙ sym (length-map c.self.inside.log.items choice_of) ∙ ap (λ (walk : Walk). length walk.log) c.self.view_is
