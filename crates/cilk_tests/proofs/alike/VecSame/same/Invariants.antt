use Rattle.std.proofs.Common.{◌≡◌, map, take}
use Rattle.cilk_tests.proofs.alike.VecSame.same.Given as goal

abbrev pub invariant-loop-i : goal.invariant-loop-i
invariant-loop-i g l = map g.T.Same.meaning (take l.i l.self.items) ≡ map g.T.Same.meaning (take l.i l.other.items)
