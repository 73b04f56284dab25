use Rattle.std.proofs.Common.{◌≡◌, ◌++◌, ◌+◌, drop}
use Rattle.cilk_view.specs.WhereLines.{by_worker, deque_line}
use Rattle.cilk_view.specs.Entries.{NamesWithin, entries_text}
use Rattle.cilk_view.proofs.deques_telling.deque_entries.Given as goal

abbrev pub invariant-loop-before : goal.invariant-loop-before
invariant-loop-before l =
    NamesWithin l.links l.entries.items
    × (entries_text l.links l.entries.items ++ by_worker (deque_line l.shown.tree.now.nodes) (l.before + 1) (drop l.before l.shown.hands.now)
    ≡ by_worker (deque_line l.shown.tree.now.nodes) 1 l.shown.hands.now)
