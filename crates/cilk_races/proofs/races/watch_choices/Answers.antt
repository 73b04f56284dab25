use Rattle.std.proofs.Common.{length, refl, sym, subst}
use Rattle.cilk_log_replay.specs.Tape.{IsAt, Tape, tape_of}
use Rattle.cilk_log_replay.specs.machine.agree.scopes.WellFormed.{WellFormed}
use Rattle.cilk_races.proofs.Gauges.{if-ok}
use Rattle.cilk_races.specs.Watched.{Watched}
use Rattle.cilk_races.specs.declared.watch.Watch.{Watch}
use Rattle.cilk_races.proofs.Raced.{watched-first}
use Rattle.cilk_races.proofs.races.watch_choices.Goals as goal

pub returns-in-Ok-new-clause-watched : goal.returns-in-Ok-new-clause-watched
returns-in-Ok-new-clause-watched c =
    let t : Tape = tape_of c.args.program c.args.workers c.args.choices.now in
    let first : Watch = c.in-Ok-new.watch in
    let start : IsAt t 0 first.machine = subst (IsAt t 0) (sym c.in-Ok-new.ensures.machine) c.in-Ok.ensures.stands in
    let well : WellFormed t.program = subst WellFormed start.program c.in-Ok-new.ensures.well in
    let kept : Watched t 0 first =
    watched-first t first start c.in-Ok-new.ensures.tally c.in-Ok-new.ensures.rows c.in-Ok-new.ensures.touches
    in
    if-ok _ (Watched t (length c.args.choices.now)) (λ w all. all t refl start well kept) c.go_through.result c.go_through.ensures.watched
