use Rattle.cilk_load.proofs.Fronts.{Wrote}
use Rattle.cilk_commands.proofs.answer.write_whole.Given as goal

abbrev pub invariant-loop : goal.invariant-loop
invariant-loop g l = Wrote (g.W.Write.contents l.fn.out) (g.W.Write.contents l.out) l.initial.rest l.rest
