use Rattle.std.proofs.Common.{subst, sym, ◌∙◌, ℕ, List}
use Rattle.cilk_program_runs.specs.commands.Held.{Held, IsReadOf}
use Rattle.cilk_program_runs.proofs.commands_laws.WholeText.{gains_whole, gains_front_whole}
use Rattle.cilk_program.specs.Picturing.{DeclinesToDraw, IsDrawable}
use Rattle.cilk_program.proofs.Pictured.{undrawn_held}
use Rattle.cilk_program_runs.proofs.Whole.{log_gave_up, not_read}
use Rattle.cilk_program_runs.specs.tapes.declared.failure.RecordFailure.TheVariants as why
use Rattle.cilk_program_runs.proofs.Said.{noted}
use Rattle.cilk_program_runs.proofs.Told.{not_told, no_usage_told}
use Rattle.cilk_program.proofs.draw.draw_text.Goals as goal

pub returns-in-Err-clause-told : goal.returns-in-Err-clause-told
returns-in-Err-clause-told g c = λ held is none.
    not_read DeclinesToDraw c.args.task.now.log.explain c.args.task.now.log.names.program.now c.args.task.now.log.names.log.now _
    (g.R.Read.remaining c.args.reader.now) held _ _ c.in-Err.failure c.in-Err.ensures.status
    c.report.ensures.status c.report.ensures.told

pub returns-in-Ok-draw_log-clause-done : goal.returns-in-Ok-draw_log-clause-done
returns-in-Ok-draw_log-clause-done g c = λ held is answered.
    let read : IsReadOf (g.R.Read.remaining c.args.reader.now) c.as_slice-text.result.now = subst
    (λ t. IsReadOf (g.R.Read.remaining c.args.reader.now) t) (sym c.as_slice-text.ensures.value) c.in-Ok.ensures.ok in
    gains_whole (g.R.Read.remaining c.args.reader.now) c.as_slice-text.result.now _ _
    (λ text answer. Held held (λ (bytes : List ℕ). IsDrawable text bytes))
    (λ answer all. all.are.is_tape.is.ready.is.text.short) read (c.in-Ok-draw_log.ensures.ok held is)

pub returns-clause-told : goal.returns-clause-told
returns-clause-told g c = λ held is none.
    let read : IsReadOf (g.R.Read.remaining c.args.reader.now) c.as_slice-text.result.now = subst
    (λ t. IsReadOf (g.R.Read.remaining c.args.reader.now) t) (sym c.as_slice-text.ensures.value) c.in-Ok.ensures.ok in
    log_gave_up DeclinesToDraw c.args.task.now.log.explain c.args.task.now.log.names.program.now c.args.task.now.log.names.log.now _
    (g.R.Read.remaining c.args.reader.now) held _ _
    c.as_slice-text.result.now c.as_str.result.now c.in-Err-draw_log.why read
    (λ refused. undrawn_held (g.R.Read.remaining c.args.reader.now) held c.as_slice-text.result.now c.in-Err-draw_log.why read
    (c.in-Err-draw_log.ensures.declined held is refused))
    c.in-Err-draw_log.ensures.follows c.explain_log.ensures.status
    (noted c.args.task.now.log.explain c.new-note.result.is_wanted held c.in-Err-draw_log.why _ c.as_str.result.now c.new-note.ensures.wanted
    c.as_str.ensures.value (c.in-Err-draw_log.ensures.said held is))
    c.explain_log.ensures.told

pub returns-clause-begun : goal.returns-clause-begun
returns-clause-begun g c = λ held is failed.
    let read : IsReadOf (g.R.Read.remaining c.args.reader.now) c.as_slice-text.result.now = subst
    (λ t. IsReadOf (g.R.Read.remaining c.args.reader.now) t) (sym c.as_slice-text.ensures.value) c.in-Ok.ensures.ok in
    gains_front_whole (g.R.Read.remaining c.args.reader.now) c.as_slice-text.result.now _ _
    (λ text answer. Held held (λ (bytes : List ℕ). IsDrawable text bytes))
    (λ answer all. all.are.is_tape.is.ready.is.text.short) read
    (c.in-Err-draw_log.ensures.begun held is (sym c.explain_log.ensures.status ∙ failed))

pub returns-in-Err-clause-done : goal.returns-in-Err-clause-done
returns-in-Err-clause-done g c = λ held is answered. not_told c.report.result (why.Program c.in-Err.failure) c.report.ensures.status answered

pub returns-in-Err-clause-only : goal.returns-in-Err-clause-only
returns-in-Err-clause-only g c = λ answered. not_told c.report.result (why.Program c.in-Err.failure) c.report.ensures.status answered

pub returns-in-Err-clause-usage : goal.returns-in-Err-clause-usage
returns-in-Err-clause-usage g c = no_usage_told c.report.result (why.Program c.in-Err.failure) c.report.ensures.status

pub returns-in-Err-clause-begun : goal.returns-in-Err-clause-begun
returns-in-Err-clause-begun g c = λ held is failed. absurd (c.in-Err.ensures.reads (sym c.report.ensures.status ∙ failed))

pub returns-in-Err-clause-quiet : goal.returns-in-Err-clause-quiet
returns-in-Err-clause-quiet g c = λ answered. not_told c.report.result (why.Program c.in-Err.failure) c.report.ensures.status answered

pub returns-clause-done : goal.returns-clause-done
returns-clause-done g c = λ held is answered. not_told c.explain_log.result c.in-Err-draw_log.why c.explain_log.ensures.status answered

pub returns-clause-only : goal.returns-clause-only
returns-clause-only g c = λ answered. not_told c.explain_log.result c.in-Err-draw_log.why c.explain_log.ensures.status answered

pub returns-clause-usage : goal.returns-clause-usage
returns-clause-usage g c = no_usage_told c.explain_log.result c.in-Err-draw_log.why c.explain_log.ensures.status

pub returns-clause-quiet : goal.returns-clause-quiet
returns-clause-quiet g c = λ answered. not_told c.explain_log.result c.in-Err-draw_log.why c.explain_log.ensures.status answered

pub returns-clause-kept : goal.returns-clause-kept
returns-clause-kept g c = λ none other. c.in-Err-draw_log.ensures.kept (λ bad. other (c.explain_log.ensures.status ∙ bad))
