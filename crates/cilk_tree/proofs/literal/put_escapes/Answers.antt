use Rattle.std.proofs.Common.{append_assoc}
use Rattle.cilk_tree.proofs.Escapes.{escapes-append}
use Rattle.cilk_tree.proofs.literal.put_escapes.Goals as goal

pub loop-c-preserved : goal.loop-c-preserved
loop-c-preserved c = rw (c.in_ok-put_escape.ensures, append_assoc) (rw (c.in-Some.ensures.steps.0, escapes-append) at c.loop-c.invariant)
