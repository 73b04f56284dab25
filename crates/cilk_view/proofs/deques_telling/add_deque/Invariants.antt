use Rattle.std.proofs.Common.{◌≡◌, ◌++◌, drop, map}
use Rattle.cilk_machine_agree.specs.model.Hands.{deque_of}
use Rattle.cilk_machine_agree.specs.Agrees.{name_in}
use Rattle.cilk_machine_agree.specs.model.Workers.{paths_text}
use Rattle.cilk_view.specs.Entries.{NamesWithin, entries_text}
use Rattle.cilk_view.proofs.deques_telling.add_deque.Given as goal

abbrev pub invariant-loop-i : goal.invariant-loop-i
invariant-loop-i l =
    (NamesWithin l.links l.initial.entries.items → NamesWithin l.links l.entries.items)
    × (entries_text l.links l.entries.items ++ paths_text (map (name_in l.shown.tree.now.nodes) (drop l.i (deque_of l.shown.hands.now l.worker)))
    ≡ entries_text l.links l.initial.entries.items ++ paths_text (map (name_in l.shown.tree.now.nodes) (deque_of l.shown.hands.now l.worker)))
