use Rattle.std.proofs.Common.{◌≡◌, ◌∙◌, Bool, Ok, ap, arith, false, map, subst, sym, true}
use Rattle.cilk_run.specs.locked.Histories.{Locked}
use Rattle.cilk_run.specs.Runs.{Stops}
use Rattle.cilk_run.specs.choices.Words.{choice_of}
use Rattle.cilk_run.specs.Drawing.{Follows}
use Rattle.cilk_run.proofs.Going.{all-drawn, follows-next, full-stops, over-drawn, over-stops}
use Rattle.cilk_run.proofs.playing.play_to_end.Goals as goal

pub returns-in-Ok-false-clause-whole : goal.returns-in-Ok-false-clause-whole
returns-in-Ok-false-clause-whole c = λ p n seed h.
    let done : c.take_turn.result ≡ Ok false = c.in-Ok-false.is ∙ ap (λ (b : Bool). Ok b) c.in-Ok-false.field-0-test in
    ap (λ (l : Locked). map choice_of l.history) (c.take_turn.ensures.same done)
    ∙ over-drawn p n seed c.args.limit c.loop-made.made c.loop-made.locked c.loop-made.draws (c.loop-made.invariant.2 p n seed h)
    (c.take_turn.ensures.over done)

pub returns-in-Ok-false-clause-stops : goal.returns-in-Ok-false-clause-stops
returns-in-Ok-false-clause-stops c = λ p n seed h.
    let done : c.take_turn.result ≡ Ok false = c.in-Ok-false.is ∙ ap (λ (b : Bool). Ok b) c.in-Ok-false.field-0-test in
    subst (λ (l : Locked). Stops c.args.limit l.machine) (sym (c.take_turn.ensures.same done))
    (over-stops p n seed c.args.limit c.loop-made.made c.loop-made.locked c.loop-made.draws (c.loop-made.invariant.2 p n seed h)
    (c.take_turn.ensures.over done) (omega (arith, c.loop-made-test.true)))

pub loop-made-preserved : goal.loop-made-preserved
loop-made-preserved c =
    let done : c.take_turn.result ≡ Ok true = c.in-Ok-true.is ∙ ap (λ (b : Bool). Ok b) c.in-Ok-true.field-0-test in
    let g = c.take_turn.ensures.made done in (
      g.made.program ∙ c.loop-made.invariant.0,
      g.made.workers ∙ c.loop-made.invariant.1,
      λ p n seed h.
          follows-next p n seed c.args.limit c.loop-made.made c.loop-made.locked c.take_turn.new.locked c.loop-made.draws c.take_turn.new.draws
          c.loop-made-test.true (c.loop-made.invariant.2 p n seed h) g,
    )

pub returns-clause-whole : goal.returns-clause-whole
returns-clause-whole c = λ p n seed h.
    let all : c.loop-made.made ≡ c.args.limit = omega (arith, c.loop-made-test.false, c.loop-made.auto.made-end) in
    all-drawn p n seed c.args.limit c.loop-made.locked c.loop-made.draws
    (subst (λ k. Follows p n seed c.args.limit k c.loop-made.locked c.loop-made.draws) all (c.loop-made.invariant.2 p n seed h))

pub returns-clause-stops : goal.returns-clause-stops
returns-clause-stops c = λ p n seed h.
    let all : c.loop-made.made ≡ c.args.limit = omega (arith, c.loop-made-test.false, c.loop-made.auto.made-end) in
    full-stops p n seed c.args.limit c.loop-made.locked c.loop-made.draws
    (subst (λ k. Follows p n seed c.args.limit k c.loop-made.locked c.loop-made.draws) all (c.loop-made.invariant.2 p n seed h))
