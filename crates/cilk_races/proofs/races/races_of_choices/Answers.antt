use Rattle.std.proofs.Common.{◌≡◌, length, sym}
use Rattle.std.proofs.lemmas.List.{length-map}
use Rattle.cilk_log_replay.specs.Tape.{Tape, tape_of}
use Rattle.cilk_log_replay.specs.machine.sched.Words.{choice_of}
use Rattle.cilk_races.proofs.Gauges.{if-ok}
use Rattle.cilk_races.specs.Found.{HoldsRun, KeepsOf, told_in}
use Rattle.cilk_races.specs.Raced.{AreRacesOf}
use Rattle.cilk_races.proofs.Raced.{holds-run, races-told}
use Rattle.cilk_races.proofs.races.races_of_choices.Goals as goal

pub returns-in-Ok-clause-races : goal.returns-in-Ok-clause-races
returns-in-Ok-clause-races c =
    let t : Tape = tape_of c.args.program c.args.workers c.args.choices.now in
    let size : length c.args.choices.now ≡ length t.choices = sym (length-map c.args.choices.now choice_of) in
    if-ok (KeepsOf c.in-Ok.watch) (λ r. AreRacesOf t (told_in r))
    (λ r same. races-told t c.in-Ok.watch (length c.args.choices.now) size c.in-Ok.ensures.stands c.in-Ok.ensures.watched (told_in r) same.entries)
    c.found.result c.found.ensures.kept

pub returns-in-Ok-clause-holds : goal.returns-in-Ok-clause-holds
returns-in-Ok-clause-holds c =
    let t : Tape = tape_of c.args.program c.args.workers c.args.choices.now in
    let size : length c.args.choices.now ≡ length t.choices = sym (length-map c.args.choices.now choice_of) in
    if-ok (KeepsOf c.in-Ok.watch) (HoldsRun t)
    (λ r same. holds-run t c.in-Ok.watch (length c.args.choices.now) size c.in-Ok.ensures.stands c.in-Ok.ensures.watched r same) c.found.result
    c.found.ensures.kept
