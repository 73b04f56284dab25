use Rattle.std.proofs.Common.{length, subst, option_map}
use Rattle.cilk_log_replay.specs.Tape.{IsAt, Tape, tape_of}
use Rattle.cilk_log_replay.specs.machine.syntax.Tree.{Program}
use Rattle.cilk_races.proofs.Gauges.{if-ok}
use Rattle.cilk_races.specs.Paired.{pair_of}
use Rattle.cilk_races.specs.Found.{HoldsRun}
use Rattle.cilk_races.specs.Met.{reversal_by}
use Rattle.cilk_races.specs.Reversals.{ReversesBy}
use Rattle.cilk_races.specs.Watched.{Watched}
use Rattle.cilk_races.proofs.Reversed.{reverses-by}
use Rattle.cilk_races.proofs.reversing.made_again.Goals as goal

pub returns-in-Ok-watch_choices : goal.returns-in-Ok-watch_choices
returns-in-Ok-watch_choices c =
    let races = c.args.races.now in
    let choices = c.args.schedule.now in
    let w = c.in-Ok-watch_choices.watch in
    let at =
    subst (λ (q : Program). IsAt (tape_of q c.args.workers choices) (length choices) w.machine) c.in-Ok.ensures c.in-Ok-watch_choices.ensures.stands
    in
    let watched =
    subst (λ (q : Program). Watched (tape_of q c.args.workers choices) (length choices) w) c.in-Ok.ensures c.in-Ok-watch_choices.ensures.watched
    in
    if-ok _
    (λ r. (t : Tape) → HoldsRun t races → ReversesBy t (pair_of races.rows races.touches.items c.args.entry) (option_map reversal_by r))
    (λ found is t holds. reverses-by t races holds c.args.workers choices w at watched
    (pair_of races.rows races.touches.items c.args.entry) found is) c.reversal_in-reversal.result c.reversal_in-reversal.ensures
