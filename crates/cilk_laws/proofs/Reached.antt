-- What follows for every run of such a text.
use Rattle.cilk_check.specs.scopes.declared.fault.CheckFault.TheVariants.{NoLoop}
use Rattle.cilk_laws_model.specs.labelled.Bodies.{label}
use Rattle.cilk_laws_model.proofs.Heads as heads
use Rattle.cilk_laws_model.proofs.Waiting as waiting
use Rattle.cilk_laws.specs.HeadLaws.{EachHasHead, StuckOnLocks}
use Rattle.cilk_laws.proofs.LoopBodies.{breaks_stand_in_loops}

pub each_has_head : EachHasHead
each_has_head p right = heads.each_has_head (label p) (breaks_stand_in_loops p (λ at. right (NoLoop at)))

pub stuck_on_locks : StuckOnLocks
stuck_on_locks p right = waiting.stuck_on_locks (label p) (breaks_stand_in_loops p (λ at. right (NoLoop at)))
