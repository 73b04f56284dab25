use Rattle.std.proofs.Common.{arith}
use Rattle.cilk_machine_agree.proofs.matching.Both.find.Goals as goal

pub has_the_same-requires-clause-here : goal.has_the_same-requires-clause-here
has_the_same-requires-clause-here c = c.requires.here c.loop-j.j 0 (omega (arith, c.loop-j-test.true))
