use Rattle.std.proofs.Common.{◌≡◌, ◌++◌, string_bytes, drop, length}
use Rattle.std.specs.Prelude.{All}
use Rattle.cilk_machine_agree.specs.spawn.Nodes.{path_at}
use Rattle.cilk_machine_agree.specs.Outside.{LockWithin}
use Rattle.cilk_view.specs.Globals.{globals_by}
use Rattle.cilk_view.proofs.globals.put_globals.Given as goal

abbrev pub invariant-loop-item : goal.invariant-loop-item
invariant-loop-item l =
    (string_bytes l.out ++ globals_by (path_at l.fn.tree.nodes) (drop l.item-index l.items) l.cells l.locks
    ≡ string_bytes l.initial.out ++ globals_by (path_at l.fn.tree.nodes) l.items l.fn.cells l.fn.locks)
    × All (LockWithin (length l.fn.tree.nodes)) l.locks
