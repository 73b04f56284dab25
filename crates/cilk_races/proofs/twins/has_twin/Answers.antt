use Rattle.std.proofs.Common.{◌≡◌, ◌<◌, ◌-◌, length, sym, subst, arith}
use Rattle.cilk_races.specs.Alike.{AreAlike}
use Rattle.cilk_races.specs.PairWords.{touch_of}
use Rattle.cilk_races.specs.Paired.{touch_at, touches_of}
use Rattle.cilk_races.specs.Races.{Touch}
use Rattle.cilk_races.proofs.Likeness.{kept-alike}
use Rattle.cilk_races.proofs.Linked.{kept-touch}
use Rattle.cilk_races.proofs.twins.has_twin.Goals as goal

pub returns-then-are_twins : goal.returns-then-are_twins
returns-then-are_twins c = λ e rows.
    let touches = c.args.touches.now in
    let place = c.args.place in
    let before = c.loop-left.left - 1 in
    let there : place < length touches = c.requires.there in
    let low : before < length touches = omega (arith, there) in
    let one : touch_at (touches_of rows touches) before ≡ touch_of rows c.index-touches-before.result =
    kept-touch rows touches before c.index-touches-before.result low (sym c.index-touches-before.is) in
    let other : touch_at (touches_of rows touches) place ≡ touch_of rows c.index-touches-place.result =
    kept-touch rows touches place c.index-touches-place.result there (sym c.index-touches-place.is) in
    record {
      earlier = before;
      before = omega arith;
      alike = subst (λ (a : Touch). AreAlike a (touch_at (touches_of rows touches) place)) (sym one)
          (subst (λ (b : Touch). AreAlike (touch_of rows c.index-touches-before.result) b) (sym other)
          (kept-alike rows c.index-touches-before.result c.index-touches-place.result (c.are_twins.ensures c.if-are_twins.true)));
    }
