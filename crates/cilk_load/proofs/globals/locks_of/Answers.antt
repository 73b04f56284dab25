use Rattle.std.proofs.Common.{◌≡◌, ◌+◌, ◌++◌, List, map, drop, refl, sym, ap, ◌∙◌}
use Rattle.std.specs.Prelude.{flat_map}
use Rattle.std.proofs.lemmas.List.{at_drop_more, map-append}
use Rattle.cilk_tree_syntax.specs.Tree as tree
use Rattle.cilk_load_nodes.specs.declared.area.Area.TheVariants.{Global}
use Rattle.cilk_load_nodes.specs.labelled.Bodies.{item_locks}
use Rattle.cilk_load_nodes.specs.Bodies.{vars_from, lock_variable}
use Rattle.cilk_load.proofs.Cells.{joined}
use Rattle.cilk_load.proofs.globals.locks_of.Goals as goal

pub loop-item-preserved : goal.loop-item-preserved
loop-item-preserved c =
    let item = c.item-item.result in
    let rest = drop (c.loop-item.item-index + 1) c.args.items.now in
    let own = map lock_variable (item_locks item) in
    let others = map lock_variable (flat_map item_locks rest) in
    let next : map lock_variable (flat_map item_locks (drop c.loop-item.item-index c.args.items.now)) ≡ own ++ others =
    at_drop_more (λ (xs : List tree.Item). map lock_variable (flat_map item_locks xs)) c.args.items.now c.loop-item.item-index item c.loop-item-test.true
    ∙ ap (λ (x : tree.Item). map lock_variable (item_locks x ++ flat_map item_locks rest)) (sym c.item-item.is)
    ∙ map-append lock_variable (item_locks item) (flat_map item_locks rest)
    in
    joined Global c.loop-item.cells c.in_ok-cells.cells c.loop-item.vars.items c.put_lock.new.vars.items _ own others c.in_ok-cells.ensures.vars
    c.in_ok-cells.ensures.after refl
    ∙ ap (λ vs. c.loop-item.vars.items ++ vars_from Global c.loop-item.cells vs) (sym next)
    ∙ c.loop-item.invariant
