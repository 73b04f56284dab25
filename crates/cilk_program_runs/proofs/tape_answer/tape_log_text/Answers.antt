use Rattle.std.proofs.Common.{subst, sym, ap, ◌∙◌, ℕ, List}
use Rattle.cilk_program_tapes.specs.commands.Held.{Held, IsReadOf}
use Rattle.cilk_program_tapes.proofs.commands_laws.Statuses.{no_usage_answered, not_both, not_failed}
use Rattle.cilk_program_tapes.proofs.commands_laws.WholeText.{gains_whole, gains_front_whole}
use Rattle.cilk_program_tapes.specs.commands.Status.{is_answer}
use Rattle.cilk_program_tapes.specs.commands.declared.status.Status.{Status}
use Rattle.cilk_program_runs.specs.OnTapes.{IsOfLog}
use Rattle.cilk_program_tapes.specs.Taped.{Declines}
use Rattle.cilk_program_tapes.proofs.Whole.{declines_held, log_gave_up, not_read}
use Rattle.cilk_program_tapes.specs.declared.failure.RecordFailure.TheVariants as why
use Rattle.cilk_program_tapes.proofs.Said.{noted}
use Rattle.cilk_program_tapes.proofs.Told.{not_told, no_usage_told}
use Rattle.cilk_program_runs.proofs.tape_answer.tape_log_text.Goals as goal

pub returns-in-Err-clause-told : goal.returns-in-Err-clause-told
returns-in-Err-clause-told g c = λ held is none.
    not_read Declines c.args.task.now.explain c.args.task.now.names.program.now c.args.task.now.names.log.now _ (g.R.Read.remaining c.args.reader.now) held _ _
    c.in-Err.failure c.in-Err.ensures.status
    c.report.ensures.status c.report.ensures.told

pub returns-in-Ok-tell_log-clause-done : goal.returns-in-Ok-tell_log-clause-done
returns-in-Ok-tell_log-clause-done g c = λ held is answered.
    let read : IsReadOf (g.R.Read.remaining c.args.reader.now) c.as_slice-text.result.now = subst
    (λ t. IsReadOf (g.R.Read.remaining c.args.reader.now) t) (sym c.as_slice-text.ensures.value) c.in-Ok.ensures.ok in
    gains_whole (g.R.Read.remaining c.args.reader.now) c.as_slice-text.result.now _ _
    (λ text answer. Held held (λ (bytes : List ℕ). IsOfLog g.A.TapeAnswering.tells text bytes c.in-Ok-tell_log.status answer))
    (λ answer all. all.are.is_tape.is.ready.is.text.short) read (c.in-Ok-tell_log.ensures.ok held is)

pub returns-clause-told : goal.returns-clause-told
returns-clause-told g c = λ held is none.
    let read : IsReadOf (g.R.Read.remaining c.args.reader.now) c.as_slice-text.result.now = subst
    (λ t. IsReadOf (g.R.Read.remaining c.args.reader.now) t) (sym c.as_slice-text.ensures.value) c.in-Ok.ensures.ok in
    log_gave_up Declines c.args.task.now.explain c.args.task.now.names.program.now c.args.task.now.names.log.now _
    (g.R.Read.remaining c.args.reader.now) held _ _
    c.as_slice-text.result.now c.as_str.result.now c.in-Err-tell_log.why read
    (λ refused. declines_held (g.R.Read.remaining c.args.reader.now) held c.as_slice-text.result.now c.in-Err-tell_log.why read
    (c.in-Err-tell_log.ensures.declined held is refused))
    c.in-Err-tell_log.ensures.follows c.explain_log.ensures.status
    (noted c.args.task.now.explain c.new-note.result.is_wanted held c.in-Err-tell_log.why _ c.as_str.result.now c.new-note.ensures.wanted
    c.as_str.ensures.value (c.in-Err-tell_log.ensures.said held is))
    c.explain_log.ensures.told

pub returns-clause-begun : goal.returns-clause-begun
returns-clause-begun g c = λ held is failed.
    let read : IsReadOf (g.R.Read.remaining c.args.reader.now) c.as_slice-text.result.now = subst
    (λ t. IsReadOf (g.R.Read.remaining c.args.reader.now) t) (sym c.as_slice-text.ensures.value) c.in-Ok.ensures.ok in
    gains_front_whole (g.R.Read.remaining c.args.reader.now) c.as_slice-text.result.now _ _
    (λ text answer. Held held (λ (bytes : List ℕ). (status : Status) × IsOfLog g.A.TapeAnswering.tells text bytes status answer))
    (λ answer all. all.are.1.is_tape.is.ready.is.text.short) read
    (c.in-Err-tell_log.ensures.begun held is (sym c.explain_log.ensures.status ∙ failed))

pub returns-in-Err-clause-done : goal.returns-in-Err-clause-done
returns-in-Err-clause-done g c = λ held is answered. not_told c.report.result (why.Program c.in-Err.failure) c.report.ensures.status answered

pub returns-in-Err-clause-usage : goal.returns-in-Err-clause-usage
returns-in-Err-clause-usage g c = no_usage_told c.report.result (why.Program c.in-Err.failure) c.report.ensures.status

pub returns-in-Err-clause-begun : goal.returns-in-Err-clause-begun
returns-in-Err-clause-begun g c = λ held is failed. absurd (c.in-Err.ensures.reads (sym c.report.ensures.status ∙ failed))

pub returns-in-Err-clause-quiet : goal.returns-in-Err-clause-quiet
returns-in-Err-clause-quiet g c = λ answered. not_told c.report.result (why.Program c.in-Err.failure) c.report.ensures.status answered

pub returns-clause-done : goal.returns-clause-done
returns-clause-done g c = λ held is answered. not_told c.explain_log.result c.in-Err-tell_log.why c.explain_log.ensures.status answered

pub returns-clause-usage : goal.returns-clause-usage
returns-clause-usage g c = no_usage_told c.explain_log.result c.in-Err-tell_log.why c.explain_log.ensures.status

pub returns-clause-quiet : goal.returns-clause-quiet
returns-clause-quiet g c = λ answered. not_told c.explain_log.result c.in-Err-tell_log.why c.explain_log.ensures.status answered

pub returns-clause-kept : goal.returns-clause-kept
returns-clause-kept g c = λ none other. c.in-Err-tell_log.ensures.kept (λ bad. other (c.explain_log.ensures.status ∙ bad))

pub returns-in-Err-clause-untrapped : goal.returns-in-Err-clause-untrapped
returns-in-Err-clause-untrapped g c = λ trapped. not_told c.report.result (why.Program c.in-Err.failure) c.report.ensures.status (ap is_answer trapped)

pub returns-clause-untrapped : goal.returns-clause-untrapped
returns-clause-untrapped g c = λ trapped. not_told c.explain_log.result c.in-Err-tell_log.why c.explain_log.ensures.status (ap is_answer trapped)

pub returns-in-Ok-tell_log-clause-untrapped : goal.returns-in-Ok-tell_log-clause-untrapped
returns-in-Ok-tell_log-clause-untrapped g c = c.in-Ok-tell_log.ensures.untrapped

pub returns-in-Ok-tell_log-clause-usage : goal.returns-in-Ok-tell_log-clause-usage
returns-in-Ok-tell_log-clause-usage g c = no_usage_answered c.in-Ok-tell_log.status c.in-Ok-tell_log.ensures.answer

pub returns-in-Ok-tell_log-clause-told : goal.returns-in-Ok-tell_log-clause-told
returns-in-Ok-tell_log-clause-told g c = λ held is none. not_both c.in-Ok-tell_log.status c.in-Ok-tell_log.ensures.answer none

pub returns-in-Ok-tell_log-clause-begun : goal.returns-in-Ok-tell_log-clause-begun
returns-in-Ok-tell_log-clause-begun g c = λ held is failed. not_failed c.in-Ok-tell_log.status c.in-Ok-tell_log.ensures.answer failed

pub returns-in-Ok-tell_log-clause-kept : goal.returns-in-Ok-tell_log-clause-kept
returns-in-Ok-tell_log-clause-kept g c = λ none other. not_both c.in-Ok-tell_log.status c.in-Ok-tell_log.ensures.answer none
