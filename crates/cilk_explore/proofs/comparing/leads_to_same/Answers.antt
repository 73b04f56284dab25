use Rattle.std.proofs.Common.{◌≡◌, true, ◌∙◌}
use Rattle.cilk_machine.specs.labelled.Bodies.{label}
use Rattle.cilk_machine.specs.model.Run.{after}
use Rattle.cilk_explore.specs.Walks.{position_of}
use Rattle.cilk_explore.proofs.comparing.leads_to_same.Goals as goal

pub returns-in-Ok-clause-same : goal.returns-in-Ok-clause-same
returns-in-Ok-clause-same c = λ ok.
    let walk = c.args.walker.now in
    let there : position_of c.go_to.new.walker ≡ after (label walk.program) walk.workers c.go_to.new.walker.log =
    λ i. after (label ((c.in-Ok.ensures.program ∙ c.requires.program) i)) ((c.in-Ok.ensures.workers ∙ c.requires.workers) i) c.go_to.new.walker.log in
    let same : c.is_same_but_names.result ≡ true = cc in
    record { log = c.go_to.new.walker.log; found = c.in-Ok.ensures.there; same = λ a b led here. c.is_same_but_names.ensures same a b (there ∙ led) here }
