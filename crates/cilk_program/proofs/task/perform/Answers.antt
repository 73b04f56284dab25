use Rattle.std.proofs.Common.{ap, inl, inr}
use Rattle.cilk_program_runs.proofs.Said.{never_trapped, no_trap}
use Rattle.cilk_program.proofs.Ended.{refused_no_answer, refused_writes}
use Rattle.cilk_program.proofs.task.perform.Goals as goal

pub returns-in-Print-clause-done : goal.returns-in-Print-clause-done
returns-in-Print-clause-done g c =
    rw c.in-Print.is (λ answered. (c.print_text.ensures.only answered, c.print_text.ensures.done (c.print_text.ensures.only answered)))

pub returns-in-Print-clause-told : goal.returns-in-Print-clause-told
returns-in-Print-clause-told g c = rw c.in-Print.is c.print_text.ensures.told

pub returns-in-Print-clause-begun : goal.returns-in-Print-clause-begun
returns-in-Print-clause-begun g c = rw c.in-Print.is (λ none. c.print_text.ensures.begun)

pub returns-in-Check-clause-done : goal.returns-in-Check-clause-done
returns-in-Check-clause-done g c =
    rw c.in-Check.is (λ answered. (c.check_text.ensures.only answered, c.check_text.ensures.done (c.check_text.ensures.only answered)))

pub returns-in-Check-clause-told : goal.returns-in-Check-clause-told
returns-in-Check-clause-told g c = rw c.in-Check.is c.check_text.ensures.told

pub returns-in-Check-clause-begun : goal.returns-in-Check-clause-begun
returns-in-Check-clause-begun g c = rw c.in-Check.is (λ none. c.check_text.ensures.begun)

pub returns-in-Debug-clause-done : goal.returns-in-Debug-clause-done
returns-in-Debug-clause-done g c =
    rw c.in-Debug.is (λ answered. (c.debug_named.ensures.only answered, c.debug_named.ensures.done (c.debug_named.ensures.only answered)))

pub returns-in-Debug-clause-told : goal.returns-in-Debug-clause-told
returns-in-Debug-clause-told g c = rw c.in-Debug.is c.debug_named.ensures.told

pub returns-in-Debug-clause-begun : goal.returns-in-Debug-clause-begun
returns-in-Debug-clause-begun g c =
    rw c.in-Debug.is (λ none. (
      c.debug_named.ensures.begun,
      λ other. elim (c.debug_named.ensures.part none other) [ inl same ↦ inl (ap g.O.Write.contents same) | inr part ↦ inr part ],
    ))

pub returns-in-Run-clause-done : goal.returns-in-Run-clause-done
returns-in-Run-clause-done g c = rw c.in-Run.is c.run_as_asked.ensures.done

pub returns-in-Run-clause-begun : goal.returns-in-Run-clause-begun
returns-in-Run-clause-begun g c = rw c.in-Run.is (λ none. c.run_as_asked.ensures.begun)

pub returns-in-Explore-clause-explained : goal.returns-in-Explore-clause-explained
returns-in-Explore-clause-explained g c = λ told.
    never_trapped c.args.request.now.explain c.explore_named.result c.explore_named.ensures.untrapped told

pub returns-in-Replay-clause-done : goal.returns-in-Replay-clause-done
returns-in-Replay-clause-done g c = rw c.in-Replay.is c.replay_named.ensures.done

pub returns-in-Replay-clause-told : goal.returns-in-Replay-clause-told
returns-in-Replay-clause-told g c = rw c.in-Replay.is c.replay_named.ensures.told

pub returns-in-Replay-clause-begun : goal.returns-in-Replay-clause-begun
returns-in-Replay-clause-begun g c = rw c.in-Replay.is (λ none. c.replay_named.ensures.begun)

pub returns-in-Print-clause-explained : goal.returns-in-Print-clause-explained
returns-in-Print-clause-explained g c = λ told. no_trap c.args.request.now.explain c.print_text.result c.print_text.ensures.only told

pub returns-in-Check-clause-explained : goal.returns-in-Check-clause-explained
returns-in-Check-clause-explained g c = λ told. no_trap c.args.request.now.explain c.check_text.result c.check_text.ensures.only told

pub returns-in-Debug-clause-explained : goal.returns-in-Debug-clause-explained
returns-in-Debug-clause-explained g c = λ told. no_trap c.args.request.now.explain c.debug_named.result c.debug_named.ensures.only told

pub returns-in-Draw-clause-done : goal.returns-in-Draw-clause-done
returns-in-Draw-clause-done g c =
    rw c.in-Draw.is (λ answered. (c.draw_named.ensures.only answered, c.draw_named.ensures.done answered))

pub returns-in-Draw-clause-told : goal.returns-in-Draw-clause-told
returns-in-Draw-clause-told g c = rw c.in-Draw.is c.draw_named.ensures.told

pub returns-in-Draw-clause-begun : goal.returns-in-Draw-clause-begun
returns-in-Draw-clause-begun g c = rw c.in-Draw.is (λ none. c.draw_named.ensures.begun)

pub returns-in-Draw-clause-explained : goal.returns-in-Draw-clause-explained
returns-in-Draw-clause-explained g c = λ told. no_trap c.args.request.now.explain c.draw_named.result c.draw_named.ensures.only told

pub returns-in-Measure-clause-done : goal.returns-in-Measure-clause-done
returns-in-Measure-clause-done g c = rw c.in-Measure.is c.tell_as_asked.ensures.done

pub returns-in-Measure-clause-told : goal.returns-in-Measure-clause-told
returns-in-Measure-clause-told g c = rw c.in-Measure.is c.tell_as_asked.ensures.told

pub returns-in-Measure-clause-begun : goal.returns-in-Measure-clause-begun
returns-in-Measure-clause-begun g c = rw c.in-Measure.is (λ none. c.tell_as_asked.ensures.begun)

pub returns-in-Measure-clause-explained : goal.returns-in-Measure-clause-explained
returns-in-Measure-clause-explained g c = λ told.
    never_trapped c.args.request.now.explain c.tell_as_asked.result c.tell_as_asked.ensures.untrapped told

pub returns-in-Races-clause-done : goal.returns-in-Races-clause-done
returns-in-Races-clause-done g c = rw c.in-Races.is c.tell_as_asked-in-Races.ensures.done

pub returns-in-Races-clause-told : goal.returns-in-Races-clause-told
returns-in-Races-clause-told g c = rw c.in-Races.is c.tell_as_asked-in-Races.ensures.told

pub returns-in-Races-clause-begun : goal.returns-in-Races-clause-begun
returns-in-Races-clause-begun g c = rw c.in-Races.is (λ none. c.tell_as_asked-in-Races.ensures.begun)

pub returns-in-Races-clause-explained : goal.returns-in-Races-clause-explained
returns-in-Races-clause-explained g c = λ told.
    never_trapped c.args.request.now.explain c.tell_as_asked-in-Races.result c.tell_as_asked-in-Races.ensures.untrapped told

pub returns-in-Serve-clause-done : goal.returns-in-Serve-clause-done
returns-in-Serve-clause-done g c = rw c.in-Serve.is c.dap_text.ensures.only

pub returns-in-Serve-clause-told : goal.returns-in-Serve-clause-told
returns-in-Serve-clause-told g c = rw c.in-Serve.is c.dap_text.ensures.told

pub returns-in-Serve-clause-begun : goal.returns-in-Serve-clause-begun
returns-in-Serve-clause-begun g c = rw c.in-Serve.is (λ none. tt)

pub returns-in-Serve-clause-explained : goal.returns-in-Serve-clause-explained
returns-in-Serve-clause-explained g c = λ told. no_trap c.args.request.now.explain c.dap_text.result c.dap_text.ensures.only told

pub returns-in-Serve-clause-unanswered : goal.returns-in-Serve-clause-unanswered
returns-in-Serve-clause-unanswered g c = λ refused. absurd (c.dap_text.ensures.refused refused)

pub returns-in-Print-clause-usage : goal.returns-in-Print-clause-usage
returns-in-Print-clause-usage g c = c.print_text.ensures.usage

pub returns-in-Print-clause-quiet : goal.returns-in-Print-clause-quiet
returns-in-Print-clause-quiet g c = λ answer traps. c.print_text.ensures.quiet answer

pub returns-in-Print-clause-kept : goal.returns-in-Print-clause-kept
returns-in-Print-clause-kept g c = λ session none other. c.print_text.ensures.kept none other

pub returns-in-Print-clause-unanswered : goal.returns-in-Print-clause-unanswered
returns-in-Print-clause-unanswered g c = λ refused.
    c.print_text.ensures.kept (refused_no_answer c.print_text.result refused) (refused_writes c.print_text.result refused)

pub returns-in-Check-clause-usage : goal.returns-in-Check-clause-usage
returns-in-Check-clause-usage g c = c.check_text.ensures.usage

pub returns-in-Check-clause-quiet : goal.returns-in-Check-clause-quiet
returns-in-Check-clause-quiet g c = λ answer traps. c.check_text.ensures.quiet answer

pub returns-in-Check-clause-kept : goal.returns-in-Check-clause-kept
returns-in-Check-clause-kept g c = λ session none other. c.check_text.ensures.kept none other

pub returns-in-Check-clause-unanswered : goal.returns-in-Check-clause-unanswered
returns-in-Check-clause-unanswered g c = λ refused.
    c.check_text.ensures.kept (refused_no_answer c.check_text.result refused) (refused_writes c.check_text.result refused)

pub returns-in-Run-clause-usage : goal.returns-in-Run-clause-usage
returns-in-Run-clause-usage g c = c.run_as_asked.ensures.usage

pub returns-in-Run-clause-explained : goal.returns-in-Run-clause-explained
returns-in-Run-clause-explained g c = c.run_as_asked.ensures.explained

pub returns-in-Run-clause-quiet : goal.returns-in-Run-clause-quiet
returns-in-Run-clause-quiet g c = c.run_as_asked.ensures.quiet

pub returns-in-Run-clause-kept : goal.returns-in-Run-clause-kept
returns-in-Run-clause-kept g c = λ session none other. c.run_as_asked.ensures.kept none other

pub returns-in-Run-clause-unanswered : goal.returns-in-Run-clause-unanswered
returns-in-Run-clause-unanswered g c = λ refused.
    c.run_as_asked.ensures.kept (refused_no_answer c.run_as_asked.result refused) (refused_writes c.run_as_asked.result refused)

pub returns-in-Explore-clause-usage : goal.returns-in-Explore-clause-usage
returns-in-Explore-clause-usage g c = c.explore_named.ensures.usage

pub returns-in-Explore-clause-quiet : goal.returns-in-Explore-clause-quiet
returns-in-Explore-clause-quiet g c = λ answer traps. c.explore_named.ensures.quiet answer

pub returns-in-Explore-clause-kept : goal.returns-in-Explore-clause-kept
returns-in-Explore-clause-kept g c = λ session none other. c.explore_named.ensures.kept none other

pub returns-in-Explore-clause-unanswered : goal.returns-in-Explore-clause-unanswered
returns-in-Explore-clause-unanswered g c = λ refused.
    c.explore_named.ensures.kept (refused_no_answer c.explore_named.result refused) (refused_writes c.explore_named.result refused)

pub returns-in-Replay-clause-usage : goal.returns-in-Replay-clause-usage
returns-in-Replay-clause-usage g c = c.replay_named.ensures.usage

pub returns-in-Replay-clause-explained : goal.returns-in-Replay-clause-explained
returns-in-Replay-clause-explained g c = c.replay_named.ensures.explained

pub returns-in-Replay-clause-quiet : goal.returns-in-Replay-clause-quiet
returns-in-Replay-clause-quiet g c = c.replay_named.ensures.quiet

pub returns-in-Replay-clause-kept : goal.returns-in-Replay-clause-kept
returns-in-Replay-clause-kept g c = λ session none other. c.replay_named.ensures.kept none other

pub returns-in-Replay-clause-unanswered : goal.returns-in-Replay-clause-unanswered
returns-in-Replay-clause-unanswered g c = λ refused.
    c.replay_named.ensures.kept (refused_no_answer c.replay_named.result refused) (refused_writes c.replay_named.result refused)

pub returns-in-Debug-clause-usage : goal.returns-in-Debug-clause-usage
returns-in-Debug-clause-usage g c = c.debug_named.ensures.usage

pub returns-in-Debug-clause-quiet : goal.returns-in-Debug-clause-quiet
returns-in-Debug-clause-quiet g c = λ answer traps. c.debug_named.ensures.quiet answer

pub returns-in-Debug-clause-kept : goal.returns-in-Debug-clause-kept
returns-in-Debug-clause-kept g c = rw c.in-Debug.is (λ session none other. cc)

pub returns-in-Debug-clause-unanswered : goal.returns-in-Debug-clause-unanswered
returns-in-Debug-clause-unanswered g c = c.debug_named.ensures.kept

pub returns-in-Measure-clause-usage : goal.returns-in-Measure-clause-usage
returns-in-Measure-clause-usage g c = c.tell_as_asked.ensures.usage

pub returns-in-Measure-clause-quiet : goal.returns-in-Measure-clause-quiet
returns-in-Measure-clause-quiet g c = λ answer traps. c.tell_as_asked.ensures.quiet answer

pub returns-in-Measure-clause-kept : goal.returns-in-Measure-clause-kept
returns-in-Measure-clause-kept g c = λ session none other. c.tell_as_asked.ensures.kept none other

pub returns-in-Measure-clause-unanswered : goal.returns-in-Measure-clause-unanswered
returns-in-Measure-clause-unanswered g c = λ refused.
    c.tell_as_asked.ensures.kept (refused_no_answer c.tell_as_asked.result refused) (refused_writes c.tell_as_asked.result refused)

pub returns-in-Races-clause-usage : goal.returns-in-Races-clause-usage
returns-in-Races-clause-usage g c = c.tell_as_asked-in-Races.ensures.usage

pub returns-in-Races-clause-quiet : goal.returns-in-Races-clause-quiet
returns-in-Races-clause-quiet g c = λ answer traps. c.tell_as_asked-in-Races.ensures.quiet answer

pub returns-in-Races-clause-kept : goal.returns-in-Races-clause-kept
returns-in-Races-clause-kept g c = λ session none other. c.tell_as_asked-in-Races.ensures.kept none other

pub returns-in-Races-clause-unanswered : goal.returns-in-Races-clause-unanswered
returns-in-Races-clause-unanswered g c = λ refused.
    c.tell_as_asked-in-Races.ensures.kept (refused_no_answer c.tell_as_asked-in-Races.result refused) (refused_writes c.tell_as_asked-in-Races.result refused)

pub returns-in-Draw-clause-usage : goal.returns-in-Draw-clause-usage
returns-in-Draw-clause-usage g c = c.draw_named.ensures.usage

pub returns-in-Draw-clause-quiet : goal.returns-in-Draw-clause-quiet
returns-in-Draw-clause-quiet g c = λ answer traps. c.draw_named.ensures.quiet answer

pub returns-in-Draw-clause-kept : goal.returns-in-Draw-clause-kept
returns-in-Draw-clause-kept g c = λ session none other. c.draw_named.ensures.kept none other

pub returns-in-Draw-clause-unanswered : goal.returns-in-Draw-clause-unanswered
returns-in-Draw-clause-unanswered g c = λ refused.
    c.draw_named.ensures.kept (refused_no_answer c.draw_named.result refused) (refused_writes c.draw_named.result refused)

pub returns-in-Serve-clause-usage : goal.returns-in-Serve-clause-usage
returns-in-Serve-clause-usage g c = c.dap_text.ensures.usage

pub returns-in-Serve-clause-quiet : goal.returns-in-Serve-clause-quiet
returns-in-Serve-clause-quiet g c = λ answer traps. c.dap_text.ensures.quiet answer

pub returns-in-Serve-clause-kept : goal.returns-in-Serve-clause-kept
returns-in-Serve-clause-kept g c = rw c.in-Serve.is (λ session none other. cc)
