use Rattle.std.proofs.Common.{◌≡◌, ◌++◌, string_bytes, drop, map}
use Rattle.cilk_machine_agree.specs.model.Hands.{deque_of}
use Rattle.cilk_machine_agree.specs.Agrees.{name_in}
use Rattle.cilk_machine_agree.specs.model.Workers.{paths_text}
use Rattle.cilk_view.proofs.deques.put_deque.Given as goal

abbrev pub invariant-loop-i : goal.invariant-loop-i
invariant-loop-i l =
    string_bytes l.out ++ paths_text (map (name_in l.fn.tree.nodes) (drop l.i (deque_of l.fn.hands l.worker)))
    ≡ string_bytes l.initial.out ++ paths_text (map (name_in l.fn.tree.nodes) (deque_of l.fn.hands l.worker))
