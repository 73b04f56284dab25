use Rattle.std.proofs.Common.{◌≡◌, ◌+◌, ◌++◌, List, drop, refl, sym, ap, ◌∙◌}
use Rattle.std.specs.Prelude.{flat_map}
use Rattle.std.proofs.lemmas.List.{at_drop_more}
use Rattle.cilk_tree_syntax.specs.Tree as tree
use Rattle.cilk_load_nodes.specs.declared.area.Area.TheVariants.{Global}
use Rattle.cilk_load_nodes.specs.labelled.Bodies.{item_globals}
use Rattle.cilk_load_nodes.specs.Bodies.{vars_from}
use Rattle.cilk_load.proofs.Cells.{joined}
use Rattle.cilk_load.proofs.globals.put_globals.Goals as goal

pub loop-item-preserved : goal.loop-item-preserved
loop-item-preserved c =
    let item = c.item-item.result in
    let others = flat_map item_globals (drop (c.loop-item.item-index + 1) c.args.items.now) in
    let next : flat_map item_globals (drop c.loop-item.item-index c.args.items.now) ≡ item_globals item ++ others =
    at_drop_more (λ (xs : List tree.Item). flat_map item_globals xs) c.args.items.now c.loop-item.item-index item c.loop-item-test.true
    ∙ ap (λ (x : tree.Item). item_globals x ++ others) (sym c.item-item.is)
    in
    joined Global c.loop-item.cells c.in_ok-cells.cells c.loop-item.vars.items c.put_global.new.vars.items _ (item_globals item) others
    c.in_ok-cells.ensures.vars c.in_ok-cells.ensures.after refl
    ∙ ap (λ vs. c.loop-item.vars.items ++ vars_from Global c.loop-item.cells vs) (sym next)
    ∙ c.loop-item.invariant
