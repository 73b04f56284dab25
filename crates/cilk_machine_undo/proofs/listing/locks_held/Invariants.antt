use Rattle.std.proofs.Common.{◌≡◌}
use Rattle.std.specs.Prelude.{slice_index_or}
use Rattle.std.specs.List.{filter, range_with_len}
use Rattle.cilk_machine_plan.specs.agree.declared.lock.Lock.TheVariants.{Unset}
use Rattle.cilk_machine_plan.specs.agree.Locks.{is_held_by}
use Rattle.cilk_machine_undo.proofs.listing.locks_held.Given as goal

abbrev pub invariant-loop-i : goal.invariant-loop-i
invariant-loop-i l = l.held.items ≡ filter (λ j. is_held_by l.id (slice_index_or l.locks j Unset)) (range_with_len 0 l.i)
