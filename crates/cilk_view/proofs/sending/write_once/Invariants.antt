use Rattle.std.proofs.Common.{length}
use Rattle.cilk_load.proofs.Fronts.{Wrote}
use Rattle.cilk_view.proofs.sending.write_once.Given as goal

abbrev pub invariant-loop-rest : goal.invariant-loop-rest
invariant-loop-rest g l = Wrote (g.W.Write.contents l.fn.writer) (g.W.Write.contents l.writer) l.initial.rest l.rest

abbrev pub decreases-loop-rest : goal.decreases-loop-rest
decreases-loop-rest g l = length l.rest
