use Rattle.std.proofs.Common.{inl, option_map, subst}
use Rattle.cilk_program_tapes.specs.commands.Loading.{Unready}
use Rattle.cilk_program_tapes.specs.commands.declared.failure.Failure.TheVariants.{Memory}
use Rattle.cilk_program_tapes.proofs.commands_laws.WholeText.{nothing_read}
use Rattle.cilk_program_runs.specs.Exploring.{Explores, ExploresFront, GivesUpExploring}
use Rattle.cilk_program_runs.specs.AsAsked.{log_name}
use Rattle.cilk_program_runs.proofs.asked.explore_named.Goals as goal

pub returns-in_default-clause-told : goal.returns-in_default-clause-told
returns-in_default-clause-told g c = λ none.
    inl (nothing_read Unready c.args.task.now.explain c.args.task.now.program.now _ _ _ _ Memory (λ bad. cc) c.report.ensures.status c.report.ensures.told)

pub returns-clause-told : goal.returns-clause-told
returns-clause-told g c = λ none.
    let task = c.args.task.now in
    subst (λ wanted. GivesUpExploring wanted task.explain task.program.now (log_name (option_map (λ it. it.now) task.logs)) c.explore_text.result
    (g.R.Read.remaining c.args.reader.now) (g.E.Write.contents c.args.streams.now.errors) (g.E.Write.contents c.explore_text.new.streams.errors))
    c.in-Ok.ensures (c.explore_text.ensures.told none)

pub returns-clause-done : goal.returns-clause-done
returns-clause-done g c = λ answered.
    let task = c.args.task.now in
    let stored = g.T.Folder.LogFolder.stored c.explore_text.new.folder in
    record {
      stored = stored;
      is =
          subst (λ wanted. Explores task.workers task.limit wanted c.explore_text.result stored (g.R.Read.remaining c.args.reader.now)
          (g.O.Write.contents c.args.streams.now.output) (g.O.Write.contents c.explore_text.new.streams.output)) c.in-Ok.ensures
          (c.explore_text.ensures.done answered);
    }

pub returns-clause-begun : goal.returns-clause-begun
returns-clause-begun g c = λ failed.
    let task = c.args.task.now in
    let stored = g.T.Folder.LogFolder.stored c.explore_text.new.folder in
    let begun = c.explore_text.ensures.begun failed in
    record {
      status = begun.0;
      stored = stored;
      is =
          subst (λ wanted. ExploresFront task.workers task.limit wanted begun.0 stored (g.R.Read.remaining c.args.reader.now)
          (g.O.Write.contents c.args.streams.now.output) (g.O.Write.contents c.explore_text.new.streams.output)) c.in-Ok.ensures begun.1;
    }
