use Rattle.std.proofs.Common.{◌≡◌, List, length, map, Some, rules, sym, ap, subst, ◌∙◌, arith}
use Rattle.std.specs.Prelude.{flat_map}
use Rattle.std.specs.List.{position}
use Rattle.cilk_tree_syntax.specs.Tree as tree
use Rattle.cilk_load.specs.nodes.declared.area.Area.TheVariants.{Global}
use Rattle.cilk_load.specs.labelled.Bodies.{item_globals, item_locks}
use Rattle.cilk_load.specs.nodes.Bodies.{vars_from, lock_variable}
use Rattle.cilk_load.specs.labelled.Count.{count_program}
use Rattle.cilk_load.specs.labelled.Lines.{action_lines}
use Rattle.cilk_load.specs.nodes.declared.body.Body.{Body}
use Rattle.cilk_load.specs.BodyTables.{starts_here}
use Rattle.cilk_load.specs.nodes.Plain.{PlainItems}
use Rattle.cilk_load.proofs.nodes_laws.Inner.{well_formed-plain}
use Rattle.cilk_load.specs.BodyTables.{items_tables}
use Rattle.cilk_load.specs.Outer.{globals_count, locks_count, bodies_count, items_nodes, file_scope}
use Rattle.cilk_load.proofs.Made.{globals-counted, locks-counted, bodies-counted, tabled}
use Rattle.cilk_load.proofs.loading.tables_of.Goals as goal

pub nodes_of-requires-clause-globals : goal.nodes_of-requires-clause-globals
nodes_of-requires-clause-globals c =
    let here : c.deref.result.now ≡ c.program-program.result.now.items = c.deref.ensures.value ∙ ap (λ (p : tree.Program). p.items) c.program.view_is in
    ap length (c.deref-5.ensures.value ∙ c.in_ok-globals.ensures) ∙ globals-counted c.deref.result.now ∙ ap globals_count here

pub nodes_of-requires-clause-locks : goal.nodes_of-requires-clause-locks
nodes_of-requires-clause-locks c =
    let here : c.deref-2.result.now ≡ c.program-program.result.now.items = c.deref-2.ensures.value ∙ ap (λ (p : tree.Program). p.items) c.program.view_is in
    ap length (c.deref-6.ensures.value ∙ c.in_ok-locks.ensures) ∙ locks-counted c.deref-2.result.now ∙ ap locks_count here

pub nodes_of-requires-clause-bodies : goal.nodes_of-requires-clause-bodies
nodes_of-requires-clause-bodies c =
    let here : c.deref-3.result.now ≡ c.program-program.result.now.items = c.deref-3.ensures.value ∙ ap (λ (p : tree.Program). p.items) c.program.view_is in
    ap length (c.deref-7.ensures.value ∙ c.in_ok-bodies.ensures) ∙ bodies-counted 1 c.deref-3.result.now ∙ ap bodies_count here

pub nodes_of-requires-clause-plain : goal.nodes_of-requires-clause-plain
nodes_of-requires-clause-plain c =
    subst (λ (p : tree.Program). PlainItems p.items) (sym c.program-program.ensures.value)
    (well_formed-plain c.args.checked c.program-program.ensures.well_formed)

pub invariant_of-result : goal.invariant_of-result
invariant_of-result c =
    let top = c.program-program.ensures.value in
    let items : c.program.inside.items.items ≡ c.args.checked.items = ap (λ (p : tree.Program). p.items) (c.program.view_is ∙ top) in
    let same : c.in_ok-main-2.main ≡ c.in_ok-main.main = search rules in
    tabled c.args.checked c.in_ok-nodes.nodes.items c.in_ok-lines.lines.items c.in_ok-bodies.bodies.items c.in_ok-main-2.main
    c.in_ok-globals.globals.items c.in_ok-locks.locks.items c.program-program.ensures.well_formed c.requires
    (c.in_ok-nodes.ensures.nodes ∙ (λ i. items_nodes (c.deref-7.ensures.value i) 0 (file_scope (c.deref-5.ensures.value i) (top i).items) 1 (top i).items))
    (omega (arith, c.in_ok-nodes.nodes.ok.0, c.in_ok-nodes.ensures.len, ap count_program top))
    (c.in_ok-lines.ensures.lines ∙ ap action_lines top)
    (omega (arith, c.in_ok-lines.lines.ok.0, c.in_ok-lines.ensures.len, ap count_program top))
    (c.in_ok-bodies.ensures ∙ ap (items_tables 1) (c.deref-3.ensures.value ∙ items))
    (ap (λ (bs : List Body). position starts_here bs) (sym c.deref-4.ensures.value) ∙ sym c.place_of_main.ensures.value ∙ c.in_ok-main.ensures.ok_part
    ∙ ap (λ k. Some k) (sym same))
    (c.in_ok-globals.ensures ∙ ap (λ (xs : List tree.Item). vars_from Global 0 (flat_map item_globals xs)) (c.deref.ensures.value ∙ items))
    (c.in_ok-locks.ensures ∙ ap (λ (xs : List tree.Item). vars_from Global 0 (map lock_variable (flat_map item_locks xs))) (c.deref-2.ensures.value ∙ items))
