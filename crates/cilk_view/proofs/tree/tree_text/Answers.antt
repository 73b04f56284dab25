use Rattle.std.proofs.Common.{ap, ◌∙◌, ◌++◌, sym, subst, All}
use Rattle.std.specs.Prelude.{flat_map}
use Rattle.std.proofs.lemmas.List.Sorted.{All-permutation}
use Rattle.cilk_load.specs.labelled.Bodies.{label}
use Rattle.cilk_machine_agree.specs.model.ViewTrees.{in_order, path_line}
use Rattle.cilk_view.specs.Shows.{machine_of}
use Rattle.cilk_view.specs.Sorting.{IsMade}
use Rattle.cilk_view.specs.Trees.{lines_by}
use Rattle.cilk_view.proofs.Trees.{sorted_are}
use Rattle.cilk_view.proofs.TreeLines.{lines_are}
use Rattle.cilk_view.proofs.tree.tree_text.Goals as goal

pub put_lines-requires-clause-made : goal.put_lines-requires-clause-made
put_lines-requires-clause-made c =
    subst (All (IsMade c.args.shown.now.tree.now.nodes)) (sym c.as_slice.ensures.value)
    (All-permutation (IsMade c.args.shown.now.tree.now.nodes) c.in_ok-made.made.items c.sort.new.self.items c.sort.ensures.permutation
    c.in_ok-made.ensures.each)

pub returns : goal.returns
returns c = λ at s.
    let p = c.args.shown.now.loaded.now in
    let m = machine_of c.args.shown.now s.outcome in
    let sorted = c.sort.new.self.items in
    c.in_ok-put_lines.ensures
    ∙ ap (λ xs. xs ++ lines_by p m.nodes m.places c.as_slice.result.now) c.new-out.ensures.bytes
    ∙ ap (lines_by p m.nodes m.places) c.as_slice.ensures.value
    ∙ lines_are p m s.who at s.agrees s.placed s.fated sorted
    (All-permutation (IsMade m.nodes) c.in_ok-made.made.items sorted c.sort.ensures.permutation c.in_ok-made.ensures.each)
    ∙ ap (flat_map (path_line (label p) at))
    (sorted_are c.in_ok-made.made.items sorted c.sort.ensures.permutation c.in_ok-sort.ensures.sorted
    ∙ ap in_order (c.in_ok-made.ensures.paths ∙ s.fated.paths))
