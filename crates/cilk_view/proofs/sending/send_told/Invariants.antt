use Rattle.std.proofs.Common.{◌≡◌, ◌++◌, [], length}
use Rattle.cilk_load.proofs.Fronts.{Wrote}
use Rattle.cilk_view.proofs.sending.send_told.Given as goal

abbrev pub invariant-loop-writer : goal.invariant-loop-writer
invariant-loop-writer g l =
    Wrote (g.W.Write.contents l.fn.writer) (g.W.Write.contents l.writer) l.fn.telling (l.portion ++ l.telling) × (l.portion ≡ [] → l.telling ≡ [])

abbrev pub decreases-loop-writer : goal.decreases-loop-writer
decreases-loop-writer g l = length (l.portion ++ l.telling)
