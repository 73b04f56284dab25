use Rattle.std.proofs.Common.{◌≡◌, length, map, option_map, sym, subst, ◌∙◌, arith}
use Rattle.std.proofs.lemmas.List.{length-map}
use Rattle.cilk_sched.specs.Words.{choice_of}
use Rattle.cilk_log.specs.Reading.{lines_of}
use Rattle.cilk_log.specs.Words.{fault_of, IsFault}
use Rattle.cilk_log.proofs.GoingOnStretched.{last, filled, past_most}
use Rattle.cilk_log.proofs.reading_stretches.read_stretches.Goals as goal

pub returns-in-Err : goal.returns-in-Err
returns-in-Err c =
    let here = c.loop-choices.invariant in
    let many : length (map choice_of c.loop-choices.choices) ≡ length c.loop-choices.choices = length-map c.loop-choices.choices choice_of in
    let ends = last (option_map choice_of c.loop-choices.last) c.loop-choices.number (map choice_of c.loop-choices.choices) (lines_of c.loop-choices.rest.now)
    (lines_of c.in-Some.behind.now) c.in-Some.line.now c.in-Some.ensures.lines c.in-Some.ensures.rest (sym c.in-None-stretch_behind.ensures)
    (omega (arith, here.few, many)) in
    subst (λ read. IsFault read (fault_of c.in-Err.fault)) (sym ends ∙ here.same)
    (c.in-Err.ensures (map choice_of c.loop-choices.choices) (many ∙ sym c.len-count.ensures))

pub returns-in-Ok : goal.returns-in-Ok
returns-in-Ok c =
    let here = c.loop-choices.invariant in
    let many : length (map choice_of c.loop-choices.choices) ≡ length c.loop-choices.choices = length-map c.loop-choices.choices choice_of in
    let ends = last (option_map choice_of c.loop-choices.last) c.loop-choices.number (map choice_of c.loop-choices.choices) (lines_of c.loop-choices.rest.now)
    (lines_of c.in-Some.behind.now) c.in-Some.line.now c.in-Some.ensures.lines c.in-Some.ensures.rest (sym c.in-None-stretch_behind.ensures)
    (omega (arith, here.few, many)) in
    sym here.same ∙ ends ∙ c.in-Ok.ensures (map choice_of c.loop-choices.choices) (many ∙ sym c.len-count.ensures)

pub returns-then-stretch-count : goal.returns-then-stretch-count
returns-then-stretch-count c =
    let here = c.loop-choices.invariant in
    let many : length (map choice_of c.loop-choices.choices) ≡ length c.loop-choices.choices = length-map c.loop-choices.choices choice_of in
    let past = past_most (option_map choice_of c.loop-choices.last) c.loop-choices.number (map choice_of c.loop-choices.choices)
    (lines_of c.loop-choices.rest.now) (lines_of c.in-Some.behind.now) c.in-Some.line.now _ c.in-Some.ensures.lines (sym c.in-Some-stretch_behind.ensures)
    (omega (arith, here.few, many, c.len-count.ensures, c.if-stretch-count.true)) in
    sym here.same ∙ past

pub loop-choices-preserved : goal.loop-choices-preserved
loop-choices-preserved c =
    let here = c.loop-choices.invariant in
    let on = filled (option_map choice_of c.loop-choices.last) c.loop-choices.number c.loop-choices.choices c.fill.new.self (lines_of c.loop-choices.rest.now)
    (lines_of c.in-Some.behind.now) c.in-Some.line.now c.in-Some-stretch_behind.stretch.choice c.in-Some-stretch_behind.stretch.times
    c.in-Some.ensures.lines c.in-Some.ensures.rest (sym c.in-Some-stretch_behind.ensures) c.in-Ok-fill.ensures.filled in
    record {
      same = sym on.0 ∙ here.same;
      few = omega (arith, on.1, here.few, c.len-count.ensures, c.if-stretch-count.false);
      lines = omega (arith, here.lines, c.in-Some.ensures.shorter);
    }
