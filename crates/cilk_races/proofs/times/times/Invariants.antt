use Rattle.std.proofs.Common.{◌≡◌, ◌≤◌, take}
use Rattle.cilk_races.specs.Paired.{touches_of}
use Rattle.cilk_races.specs.PairWords.{touch_of}
use Rattle.cilk_races.specs.Reversals.{times}
use Rattle.cilk_races.proofs.times.times.Given as goal

abbrev pub invariant-loop-touch : goal.invariant-loop-touch
invariant-loop-touch l =
    (l.count ≡ times (touch_of l.rows l.access) l.choice (touches_of l.others (take l.touch-index l.touches))) × (l.count ≤ l.touch-index)
