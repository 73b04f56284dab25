use Rattle.std.proofs.Common.{◌≡◌, ◌<◌, ◌++◌, ℕ, List, length, IfSome}
use Rattle.std.specs.Prelude.{flat_map}
use Rattle.cilk_machine_agree.specs.model.Path.{Path}
use Rattle.cilk_view.specs.Trees.{TellsLines}
use Rattle.cilk_view.specs.Entries.{NamesWithin, entries_text}
use Rattle.cilk_view.specs.Following.{all_paths, from_here}
use Rattle.cilk_view.proofs.tree_telling.tree_entries.Given as goal

abbrev pub invariant-loop-at : goal.invariant-loop-at
invariant-loop-at l =
    NamesWithin l.links l.entries.items
    × (IfSome l.at (λ i. i < length l.shown.tree.now.nodes)
    × ((f : Path → List ℕ) → TellsLines l.shown.loaded.now l.shown.tree.now.nodes l.shown.hands.now f
    → entries_text l.links l.entries.items ++ flat_map f (from_here l.shown.tree.now.nodes l.at) ≡ flat_map f (all_paths l.shown.tree.now.nodes)))

abbrev pub decreases-loop-at : goal.decreases-loop-at
decreases-loop-at l = length (from_here l.shown.tree.now.nodes l.at)
