use Rattle.std.proofs.Common.{◌∙◌, ap, not}
use Rattle.cilk_run.specs.model.State.{is_empty}
use Rattle.cilk_run.proofs.choosing.has_victim.Goals as goal

pub returns : goal.returns
returns c = λ at s.
    c.is_some.ensures ∙ ap (λ xs. not (is_empty xs)) (c.as_slice.ensures.value ∙ c.in_ok-find_victims.ensures.found at s)
