use Rattle.std.proofs.Common.{◌<◌, ◌∙◌, arith, sym, length}
use Rattle.std.proofs.lemmas.Bool.{or_right}
use Rattle.cilk_run.specs.Tallied.{bumped}
use Rattle.cilk_run.specs.Tallying.{outcome_by}
use Rattle.cilk_run.proofs.Steps.{found-next, or-is-first, row-few, rows-next, same-length}
use Rattle.cilk_run.proofs.tallying.count_same.Goals as goal
use Rattle.cilk_run.proofs.tallying.count_same.Goals.{then-count_if_same, else-count_if_same}

pub count_if_same-requires : goal.count_if_same-requires
count_if_same-requires c =
    let invariant = c.loop-i.invariant in
    let within : c.loop-i.i < length c.args.rows.now = omega (arith, c.loop-i-test.true, c.loop-i.auto.i-end) in
    let few = row-few (bumped (outcome_by c.args.outcome.now)) c.args.rows.now c.loop-i.rows c.loop-i.i invariant.0
    within invariant.1 c.index-rows-i.result (4294967294) c.requires.few in
    omega (arith, few)

pub loop-i-preserved : goal.loop-i-preserved
loop-i-preserved c =
    let f = bumped (outcome_by c.args.outcome.now) in
    let invariant = c.loop-i.invariant in
    let within : c.loop-i.i < length c.args.rows.now = omega (arith, c.loop-i-test.true, c.loop-i.auto.i-end) in
    let d = c.index-rows-i.result in (
      rows-next f c.args.rows.now c.loop-i.rows c.loop-i.i invariant.0 within invariant.1 d c.count_if_same.new.self c.count_if_same.ensures.row,
      same-length c.loop-i.rows c.loop-i.i c.count_if_same.new.self ∙ invariant.1,
      found-next f c.args.rows.now c.loop-i.rows c.loop-i.i invariant.0 within invariant.1 d (outcome_by c.args.outcome.now) c.loop-i.is_found
          c.count_if_same.result c.if-count_if_same.is_found invariant.2 c.count_if_same.ensures.same
          (elim c.if-count_if_same.branch [
            | then-count_if_same w ↦ w.is_found-is ∙ sym (or_right c.loop-i.is_found c.count_if_same.result w.if-count_if_same.true)
            | else-count_if_same w ↦ w.is_found-is ∙ sym (or-is-first c.loop-i.is_found c.count_if_same.result w.if-count_if_same.false)
          ]),
    )
