use Rattle.std.proofs.Common.{◌≡◌, drop, map}
use Rattle.cilk_check_scopes.specs.Scopes.{parameter}
use Rattle.cilk_check.specs.Room.{behind}
use Rattle.cilk_check.proofs.cells.behind_names.Given as goal

abbrev pub invariant-loop-name : goal.invariant-loop-name
invariant-loop-name l =
    behind l.room (map parameter (drop l.name-index l.names)) ≡ behind l.initial.room (map parameter l.names)
