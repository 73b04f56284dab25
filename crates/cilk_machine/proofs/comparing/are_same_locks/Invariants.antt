use Rattle.std.proofs.Common.{◌≡◌, ◌<◌, ℕ, slice_index_or}
use Rattle.cilk_machine_undo.specs.spawn.Nodes.{path_at}
use Rattle.cilk_machine_undo.specs.agree.Outside.{lock_by}
use Rattle.cilk_machine_undo.specs.agree.declared.lock.Lock.TheVariants.{Free}
use Rattle.cilk_machine.proofs.comparing.are_same_locks.Given as goal

abbrev pub invariant-loop-k : goal.invariant-loop-k
invariant-loop-k l = (i : ℕ) → i < l.k
    → lock_by (path_at l.tree.nodes) (slice_index_or l.locks i Free) ≡ lock_by (path_at l.other.nodes) (slice_index_or l.others i Free)
