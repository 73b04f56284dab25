use Rattle.std.proofs.Common.{subst, sym, ◌∙◌}
use Rattle.cilk_commands.specs.Held.{IsReadOf}
use Rattle.cilk_commands.specs.Loading.{Unready}
use Rattle.cilk_commands.specs.declared.status.Status.{Status}
use Rattle.cilk_commands.proofs.Statuses.{no_usage_answered, not_answered, not_both, not_failed}
use Rattle.cilk_commands.proofs.WholeText.{nothing_read, gives_up, gains_whole, gains_front_whole}
use Rattle.cilk_commands.proofs.answering.answer_text.Goals as goal

pub returns-in-Err-clause-done : goal.returns-in-Err-clause-done
returns-in-Err-clause-done g c = λ answered. not_answered c.report.result c.in-Err.failure c.report.ensures.status answered

pub returns-in-Err-clause-told : goal.returns-in-Err-clause-told
returns-in-Err-clause-told g c =
    λ none. nothing_read Unready c.args.explain c.args.name.now _ _ _ _ c.in-Err.failure c.in-Err.ensures.status c.report.ensures.status
    c.report.ensures.told

pub returns-in-Ok-write_out-clause-done : goal.returns-in-Ok-write_out-clause-done
returns-in-Ok-write_out-clause-done g c = λ answered.
    let read : IsReadOf (g.R.Read.remaining c.args.reader.now) c.as_slice-text.result.now = subst
    (λ t. IsReadOf (g.R.Read.remaining c.args.reader.now) t) (sym c.as_slice-text.ensures.value) c.in-Ok.ensures.ok in
    gains_whole (g.R.Read.remaining c.args.reader.now) c.as_slice-text.result.now _ _ (λ bytes answer. g.A.Answering.are bytes c.in-Ok-write_out.status answer)
    (g.met.A.Answering.short c.as_slice-text.result.now c.in-Ok-write_out.status) read c.in-Ok-write_out.ensures.ok

pub returns-in-Ok-write_out-clause-told : goal.returns-in-Ok-write_out-clause-told
returns-in-Ok-write_out-clause-told g c = λ none. not_both c.in-Ok-write_out.status c.in-Ok-write_out.ensures.answers none

pub returns-in-Ok-write_out-clause-begun : goal.returns-in-Ok-write_out-clause-begun
returns-in-Ok-write_out-clause-begun g c = λ failed. not_failed c.in-Ok-write_out.status c.in-Ok-write_out.ensures.answers failed

pub returns-in-Ok-write_out-clause-usage : goal.returns-in-Ok-write_out-clause-usage
returns-in-Ok-write_out-clause-usage g c = no_usage_answered c.in-Ok-write_out.status c.in-Ok-write_out.ensures.answers

pub returns-in-Ok-write_out-clause-kept : goal.returns-in-Ok-write_out-clause-kept
returns-in-Ok-write_out-clause-kept g c = λ none other. not_both c.in-Ok-write_out.status c.in-Ok-write_out.ensures.answers none

pub returns-clause-done : goal.returns-clause-done
returns-clause-done g c = λ answered. not_answered c.tell_of.result c.in-Err-write_out.failure c.tell_of.ensures.status answered

pub returns-clause-told : goal.returns-clause-told
returns-clause-told g c = λ none.
    let read : IsReadOf (g.R.Read.remaining c.args.reader.now) c.as_slice-text.result.now = subst
    (λ t. IsReadOf (g.R.Read.remaining c.args.reader.now) t) (sym c.as_slice-text.ensures.value) c.in-Ok.ensures.ok in
    gives_up c.args.explain c.args.name.now _ (g.R.Read.remaining c.args.reader.now) _ _ c.as_slice-text.result.now c.in-Err-write_out.failure
    read c.in-Err-write_out.ensures.declined c.tell_of.ensures.status c.tell_of.ensures.told

pub returns-clause-begun : goal.returns-clause-begun
returns-clause-begun g c = λ failed.
    let read : IsReadOf (g.R.Read.remaining c.args.reader.now) c.as_slice-text.result.now = subst
    (λ t. IsReadOf (g.R.Read.remaining c.args.reader.now) t) (sym c.as_slice-text.ensures.value) c.in-Ok.ensures.ok in
    let begun = c.in-Err-write_out.ensures.begun (sym c.tell_of.ensures.status ∙ failed) in
    gains_front_whole (g.R.Read.remaining c.args.reader.now) c.as_slice-text.result.now _ _
    (λ bytes answer. (ended : Status) × g.A.Answering.are bytes ended answer)
    (λ answer is. g.met.A.Answering.short c.as_slice-text.result.now is.0 answer is.1) read begun
