use Rattle.std.proofs.Common.{subst, sym, inl, ◌∙◌}
use Rattle.cilk_program_tapes.specs.commands.Held.{IsReadOf}
use Rattle.cilk_program_tapes.specs.commands.Loading.{Unready}
use Rattle.cilk_program_tapes.proofs.commands_laws.WholeText.{nothing_read}
use Rattle.cilk_program_runs.specs.Exploring.{IsExplored}
use Rattle.cilk_program_runs.specs.declared.unexplored.Unexplored.TheVariants as why
use Rattle.cilk_program_runs.proofs.Explored.{gave-up, keeps-front-whole, keeps-whole, no-trap, no-usage, not-explored}
use Rattle.cilk_program_tapes.proofs.commands_laws.Statuses.{no_usage_answered, not_both, not_failed}
use Rattle.cilk_program_runs.proofs.explore.explore_text.Goals as goal

pub returns-in-Err-clause-told : goal.returns-in-Err-clause-told
returns-in-Err-clause-told g c =
    λ none. inl (nothing_read Unready c.args.task.now.explain c.args.task.now.program.now _ _ _ _ c.in-Err.failure c.in-Err.ensures.status
    c.report.ensures.status c.report.ensures.told)

pub returns-in-Err-clause-done : goal.returns-in-Err-clause-done
returns-in-Err-clause-done g c = λ answered. not-explored c.report.result (why.Program c.in-Err.failure) c.report.ensures.status answered

pub returns-in-Err-clause-untrapped : goal.returns-in-Err-clause-untrapped
returns-in-Err-clause-untrapped g c = no-trap c.report.result (why.Program c.in-Err.failure) c.report.ensures.status

pub returns-in-Err-clause-usage : goal.returns-in-Err-clause-usage
returns-in-Err-clause-usage g c = no-usage c.report.result (why.Program c.in-Err.failure) c.report.ensures.status

pub returns-in-Err-clause-begun : goal.returns-in-Err-clause-begun
returns-in-Err-clause-begun g c = λ failed. absurd (c.in-Err.ensures.reads (sym c.report.ensures.status ∙ failed))

pub returns-in-Err-clause-quiet : goal.returns-in-Err-clause-quiet
returns-in-Err-clause-quiet g c = λ answered. not-explored c.report.result (why.Program c.in-Err.failure) c.report.ensures.status answered

pub returns-in-Ok-explore_in-clause-done : goal.returns-in-Ok-explore_in-clause-done
returns-in-Ok-explore_in-clause-done g c = λ answered.
    let read : IsReadOf (g.R.Read.remaining c.args.reader.now) c.as_slice-text.result.now = subst
    (λ t. IsReadOf (g.R.Read.remaining c.args.reader.now) t) (sym c.as_slice-text.ensures.value) c.in-Ok.ensures.ok in
    keeps-whole (g.R.Read.remaining c.args.reader.now) c.as_slice-text.result.now _ _ _ _
    (IsExplored c.args.task.now.workers c.args.task.now.limit c.in-Ok-explore_in.status)
    (λ answer logs is. is.ready.is.text.short) read c.in-Ok-explore_in.ensures.ok

pub returns-in-Ok-explore_in-clause-usage : goal.returns-in-Ok-explore_in-clause-usage
returns-in-Ok-explore_in-clause-usage g c = no_usage_answered c.in-Ok-explore_in.status c.in-Ok-explore_in.ensures.answer

pub returns-in-Ok-explore_in-clause-told : goal.returns-in-Ok-explore_in-clause-told
returns-in-Ok-explore_in-clause-told g c = λ none. not_both c.in-Ok-explore_in.status c.in-Ok-explore_in.ensures.answer none

pub returns-in-Ok-explore_in-clause-begun : goal.returns-in-Ok-explore_in-clause-begun
returns-in-Ok-explore_in-clause-begun g c = λ failed. not_failed c.in-Ok-explore_in.status c.in-Ok-explore_in.ensures.answer failed

pub returns-in-Ok-explore_in-clause-kept : goal.returns-in-Ok-explore_in-clause-kept
returns-in-Ok-explore_in-clause-kept g c = λ none other. not_both c.in-Ok-explore_in.status c.in-Ok-explore_in.ensures.answer none

pub returns-clause-told : goal.returns-clause-told
returns-clause-told g c = λ none.
    let read : IsReadOf (g.R.Read.remaining c.args.reader.now) c.as_slice-text.result.now = subst
    (λ t. IsReadOf (g.R.Read.remaining c.args.reader.now) t) (sym c.as_slice-text.ensures.value) c.in-Ok.ensures.ok in
    gave-up _ c.args.task.now.explain c.args.task.now.program.now _ c.tell.result (g.R.Read.remaining c.args.reader.now) _ _ c.as_slice-text.result.now
    c.in-Err-explore_in.why read c.in-Err-explore_in.ensures.told c.tell.ensures.status c.tell.ensures.told

pub returns-clause-begun : goal.returns-clause-begun
returns-clause-begun g c = λ failed.
    let read : IsReadOf (g.R.Read.remaining c.args.reader.now) c.as_slice-text.result.now = subst
    (λ t. IsReadOf (g.R.Read.remaining c.args.reader.now) t) (sym c.as_slice-text.ensures.value) c.in-Ok.ensures.ok in
    let begun = c.in-Err-explore_in.ensures.begun (sym c.tell.ensures.status ∙ failed) in (
      begun.0,
      keeps-front-whole (g.R.Read.remaining c.args.reader.now) c.as_slice-text.result.now _ _ _ _
          (IsExplored c.args.task.now.workers c.args.task.now.limit begun.0) (λ answer logs is. is.ready.is.text.short) read begun.1,
    )

pub returns-clause-done : goal.returns-clause-done
returns-clause-done g c = λ answered. not-explored c.tell.result c.in-Err-explore_in.why c.tell.ensures.status answered

pub returns-clause-untrapped : goal.returns-clause-untrapped
returns-clause-untrapped g c = no-trap c.tell.result c.in-Err-explore_in.why c.tell.ensures.status

pub returns-clause-usage : goal.returns-clause-usage
returns-clause-usage g c = no-usage c.tell.result c.in-Err-explore_in.why c.tell.ensures.status

pub returns-clause-quiet : goal.returns-clause-quiet
returns-clause-quiet g c = λ answered. not-explored c.tell.result c.in-Err-explore_in.why c.tell.ensures.status answered

pub returns-clause-kept : goal.returns-clause-kept
returns-clause-kept g c = λ none other. c.in-Err-explore_in.ensures.kept (λ bad. other (c.tell.ensures.status ∙ bad))
