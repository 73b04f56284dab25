use Rattle.std.proofs.Common.{◌≡◌, ◌++◌, ◌+◌, string_bytes, drop}
use Rattle.cilk_view.specs.Trees.{holder_by}
use Rattle.cilk_view.proofs.tree.put_holder.Given as goal

abbrev pub invariant-loop-before : goal.invariant-loop-before
invariant-loop-before l =
    string_bytes l.out ++ holder_by l.id (l.before + 1) (drop l.before l.hands) ≡ string_bytes l.initial.out ++ holder_by l.id 1 l.hands
