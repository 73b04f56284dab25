use Rattle.std.proofs.Common.{ap, subst, sym, ◌∙◌}
use Rattle.cilk_run.specs.labelled.Bodies.{label}
use Rattle.cilk_run.specs.locked.Histories.{IsLedBy}
use Rattle.cilk_run.specs.machine.Situation.{Situation, workers_of}
use Rattle.cilk_run.specs.syntax.Tree.{Program}
use Rattle.cilk_run.specs.Drawn.{drawn}
use Rattle.cilk_run.proofs.Ends.{outcome-is}
use Rattle.cilk_run.proofs.outcome.outcome_of.Goals as goal

pub returns-in-Ok-outcome-clause-ok : goal.returns-in-Ok-outcome-clause-ok
returns-in-Ok-outcome-clause-ok c =
    let l = c.in-Ok-played_by_seed.locked in
    let played = c.in-Ok-played_by_seed.ensures in
    let value = c.machine.ensures.value in
    outcome-is c.args.program.now c.args.workers c.args.limit c.args.seed c.machine.result.now l.history c.in-Ok-outcome.outcome
    (ap (λ (m : Situation). m.program) value ∙ played.program ∙ c.in-Ok.ensures)
    (ap workers_of value ∙ played.crew)
    (subst (λ (m : Situation). IsLedBy m l.history) (sym value) c.machine.ensures.led)
    (played.drawn ∙ ap (λ (p : Program). drawn (label p) c.args.workers c.args.seed c.args.limit) c.in-Ok.ensures)
    c.in-Ok-outcome.ensures.printed c.in-Ok-outcome.ensures.ended
