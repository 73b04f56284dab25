use Rattle.std.proofs.Common.{◌≡◌, drop}
use Rattle.cilk_check_scopes.specs.Scopes.{file_declares}
use Rattle.cilk_check.specs.Room.{behind}
use Rattle.cilk_check.proofs.cells.behind_items.Given as goal

abbrev pub invariant-loop-item : goal.invariant-loop-item
invariant-loop-item l =
    behind l.room (file_declares (drop l.item-index l.items)) ≡ behind l.initial.room (file_declares l.items)
