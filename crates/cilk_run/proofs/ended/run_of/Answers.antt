use Rattle.std.proofs.Common.{ℕ, List, Some, ap, refl, sym, subst, ◌∙◌}
use Rattle.cilk_run.specs.machine.Situation.{Situation}
use Rattle.cilk_run.specs.syntax.Tree.{Program}
use Rattle.cilk_run.specs.log.Naming.{digest_of}
use Rattle.cilk_run.specs.log.syntax.ProgramText.{program_text}
use Rattle.cilk_run.specs.Histories.{IsCounted}
use Rattle.cilk_run.proofs.Ran.{ran}
use Rattle.cilk_run.proofs.ended.run_of.Goals as goal

pub returns-in-Ok-closing-clause-ok : goal.returns-in-Ok-closing-clause-ok
returns-in-Ok-closing-clause-ok c =
    let l = c.args.locked in
    let turns = subst (λ ts. IsCounted c.args.workers ts c.history.result.now) (sym c.new.ensures) c.in-Ok-turns_in.ensures in
    ran l.machine.program c.args.workers c.args.limit l.machine c.machine-in-Ok-turns_in.result.now l.history _
    c.machine-in-Ok-turns_in.ensures.value refl c.requires.crew
    c.history.ensures.led c.requires.over
    (ap (λ (digest : List ℕ). Some digest)
    (c.in-Ok.ensures ∙ ap (λ (p : Program). digest_of (program_text p))
    (c.loaded.ensures ∙ ap (λ (m : Situation). m.program) c.machine.ensures.value))) refl c.into_choices.ensures
    (subst (λ h. IsCounted c.args.workers c.new.result h) c.history.ensures.value turns)
    c.in-Ok-closing.ensures.output c.in-Ok-closing.ensures.end
