use Rattle.std.proofs.Common.{refl}
use Rattle.cilk_program_runs.specs.commands.declared.failure.Failure.TheVariants.{CannotRead}
use Rattle.cilk_words.specs.CommandLine.{wanted_by}
use Rattle.cilk_program.proofs.Ended.{leaves_nothing, unread}
use Rattle.cilk_program_runs.proofs.Said.{failure_no_trap}
use Rattle.cilk_program.proofs.dispatch.open_and_perform.Goals as goal

pub returns-in-None-clause-told : goal.returns-in-None-clause-told
returns-in-None-clause-told g c =
    let request = c.args.request.now in
    let held = g.T.Texts.held c.args.texts.now in
    let old = g.E.Write.contents c.args.streams.now.errors in
    let new = g.E.Write.contents c.report.new.err in
    λ none. unread (wanted_by request.task) request.explain request.name.now c.report.result (held request.name.now) held old new CannotRead (λ bad. cc)
    c.report.ensures.status c.report.ensures.told

pub returns-in-None-clause-begun : goal.returns-in-None-clause-begun
returns-in-None-clause-begun g c =
    let request = c.args.request.now in
    let held = g.T.Texts.held c.args.texts.now in
    λ none. leaves_nothing (wanted_by request.task) c.report.result (held request.name.now) held (g.T.Texts.entered c.args.texts.now) _ _
    (λ bad. cc) refl

pub returns-in-None-clause-explained : goal.returns-in-None-clause-explained
returns-in-None-clause-explained g c = λ told. failure_no_trap c.args.request.now.explain c.report.result CannotRead c.report.ensures.status told
