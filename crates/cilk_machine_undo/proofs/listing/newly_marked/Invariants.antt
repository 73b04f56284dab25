use Rattle.std.proofs.Common.{◌≡◌}
use Rattle.std.specs.List.{filter, range_with_len}
use Rattle.cilk_machine_undo.specs.Records.{is_new}
use Rattle.cilk_machine_undo.proofs.listing.newly_marked.Given as goal

abbrev pub invariant-loop-i : goal.invariant-loop-i
invariant-loop-i l = l.ids.items ≡ filter (is_new l.tree.nodes l.id) (range_with_len 0 l.i)
