use Rattle.std.proofs.Common.{◌∙◌}
use Rattle.cilk_run.specs.labelled.Bodies.{label}
use Rattle.cilk_run.specs.Drawing.{turn_with}
use Rattle.cilk_run.proofs.Turns.{none-drawn, some-drawn}
use Rattle.cilk_run.proofs.draws.drawn_choice.Goals as goal

pub returns-in-None : goal.returns-in-None
returns-in-None c = λ at s.
    none-drawn (label c.args.machine.now.program) c.args.workers at c.as_slice.result.now c.args.generator.now
    (c.as_slice.ensures.value ∙ c.in_ok-find_movers.ensures.found at s) c.in-None.ensures.none

pub returns-in-Ok : goal.returns-in-Ok
returns-in-Ok c = λ at s.
    some-drawn (label c.args.machine.now.program) c.args.workers at c.as_slice.result.now c.args.generator.now c.in-Some.worker c.any_of.new.generator
    (turn_with c.choice_of_worker.new.generator c.in-Ok.choice) (c.as_slice.ensures.value ∙ c.in_ok-find_movers.ensures.found at s)
    c.in-Some.ensures.some c.in-Some.ensures.value c.in-Some.ensures.state (c.in-Ok.ensures at s)
