use Rattle.std.proofs.Common.{List}
use Rattle.cilk_races.specs.Line.{Line}
use Rattle.cilk_races.specs.Noted.{touch_by}
use Rattle.cilk_races.proofs.Touched.{kept-more}
use Rattle.cilk_races.proofs.watch.push_touches.Goals as goal

pub loop-access-preserved : goal.loop-access-preserved
loop-access-preserved c =
    let look = c.args.look.now in (
      kept-more (λ (rows : List Line). touch_by rows c.args.choice look.own c.args.placed c.args.n look.locks.items look.procedure)
          c.as_slice-access-items.result.now look.accesses.items c.loop-access.access-index _ c.args.touches.now.items c.loop-access.touches.items
          c.push_touch.new.touches.items c.as_slice-access-items.ensures.value c.loop-access-test.true c.loop-access.invariant.0
          c.in_ok-push_touch.ensures.touches,
      λ count own placed all. c.in_ok-push_touch.ensures.known count own placed (c.loop-access.invariant.1 count own placed all),
    )
