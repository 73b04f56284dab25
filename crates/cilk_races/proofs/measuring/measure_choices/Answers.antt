use Rattle.std.proofs.Common.{◌≡◌, ℕ, length, refl, sym, subst}
use Rattle.std.proofs.lemmas.List.{length-map}
use Rattle.cilk_log_replay.specs.machine.sched.Words.{choice_of}
use Rattle.cilk_log_replay.specs.Tape.{Tape, IsAt, tape_of}
use Rattle.cilk_races.specs.Gauged.{IsMeasureOf}
use Rattle.cilk_races.specs.Held.{Gauged}
use Rattle.cilk_races.specs.Seats.{told}
use Rattle.cilk_races.specs.Words.{numbers_of}
use Rattle.cilk_races.proofs.Gauges.{gauged-first, measured, if-ok}
use Rattle.cilk_races.proofs.measuring.measure_choices.Goals as goal

pub returns-in-Ok-go_through-clause-numbers : goal.returns-in-Ok-go_through-clause-numbers
returns-in-Ok-go_through-clause-numbers c =
    let t : Tape = tape_of c.args.program c.args.workers c.args.choices.now in
    let size : length c.args.choices.now ≡ length t.choices = sym (length-map c.args.choices.now choice_of) in
    let start : IsAt t 0 c.in-Ok-new.gauge.machine = subst (IsAt t 0) (sym c.in-Ok-new.ensures.machine) c.in-Ok.ensures.stands in
    let end = c.in-Ok-go_through.ensures.stands t refl start in
    let kept =
    c.in-Ok-go_through.ensures.gauged t refl start
    (gauged-first t c.in-Ok-new.gauge c.args.workers refl start c.in-Ok-new.ensures.tally c.in-Ok-new.ensures.counts)
    in
    let is : IsMeasureOf t (told c.in-Ok-go_through.gauge.tally c.in-Ok-go_through.gauge.counts) =
    measured t c.in-Ok-go_through.gauge (subst (λ (k : ℕ). IsAt t k c.in-Ok-go_through.gauge.machine) size end)
    (subst (λ (k : ℕ). Gauged t k c.in-Ok-go_through.gauge) size kept)
    in
    if-ok (λ m. numbers_of m.measure ≡ told c.in-Ok-go_through.gauge.tally c.in-Ok-go_through.gauge.counts) (λ m. IsMeasureOf t (numbers_of m.measure))
    (λ m e. subst (IsMeasureOf t) (sym e) is) c.told.result c.told.ensures.numbers
