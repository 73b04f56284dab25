use Rattle.std.proofs.Common.{◌≡◌, ◌<◌, ◌++◌, ℕ, List, map, take}
use Rattle.std.specs.List.{All}
use Rattle.cilk_races.specs.Line.{Line}
use Rattle.cilk_races.specs.Paired.{touches_of}
use Rattle.cilk_races.specs.Noted.{ArePlaced, KnowsTouch, touch_by}
use Rattle.cilk_races.proofs.watch.push_touches.Given as goal

abbrev pub invariant-loop-access : goal.invariant-loop-access
invariant-loop-access l =
    ((rows : List Line) → touches_of rows l.touches.items ≡ touches_of rows l.fn.touches.items
    ++ map (touch_by rows l.choice l.look.own l.placed l.n l.look.locks.items l.look.procedure) (take l.access-index l.look.accesses.items))
    × ((count : ℕ) → l.look.own < count → ArePlaced count l.placed → All (KnowsTouch count) l.fn.touches.items → All (KnowsTouch count) l.touches.items)
