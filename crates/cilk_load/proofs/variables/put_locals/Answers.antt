use Rattle.std.proofs.Common.{◌≡◌, ◌+◌, ◌++◌, List, drop, refl, sym, ap, ◌∙◌, append-nil}
use Rattle.std.proofs.lemmas.List.{at_drop_all, at_drop_more}
use Rattle.cilk_tree_syntax.specs.Tree as tree
use Rattle.cilk_tree_syntax.specs.Tree.{locals_of}
use Rattle.cilk_load_nodes.specs.declared.area.Area.TheVariants.{Own}
use Rattle.cilk_load_nodes.specs.labelled.Label.{local_variables, locals_variables}
use Rattle.cilk_load_nodes.specs.Slots.{cells_of}
use Rattle.cilk_load_nodes.specs.Bodies.{vars_from}
use Rattle.cilk_load.proofs.Further.{further}
use Rattle.cilk_load.proofs.Cells.{joined, cells_of-append}
use Rattle.cilk_load.proofs.variables.put_locals.Goals as goal

pub loop-local-preserved : goal.loop-local-preserved
loop-local-preserved c =
    let own = local_variables c.local-item.result in
    let others = locals_variables (locals_of (drop (c.loop-local.local-index + 1) c.args.locals.now)) in
    let next : locals_variables (locals_of (drop c.loop-local.local-index c.args.locals.now)) ≡ own ++ others =
    at_drop_more (λ (x : List tree.Local). locals_variables (locals_of x)) c.args.locals.now c.loop-local.local-index c.local-item.result c.loop-local-test.true
    ∙ ap (λ (x : tree.Local). local_variables x ++ others) (sym c.local-item.is)
    in
    record {
      vars =
          joined Own c.loop-local.cells c.in_ok-cells.cells c.loop-local.vars.items c.put_local.new.vars.items _ own others c.in_ok-cells.ensures.vars
          c.in_ok-cells.ensures.after refl
          ∙ ap (λ vs. c.loop-local.vars.items ++ vars_from Own c.loop-local.cells vs) (sym next)
          ∙ c.loop-local.invariant.vars;
      cells =
          further c.loop-local.cells (cells_of own) (cells_of others) _ _ _ c.in_ok-cells.ensures.after (ap cells_of next ∙ cells_of-append own others)
          c.loop-local.invariant.cells;
    }

pub returns-clause-vars : goal.returns-clause-vars
returns-clause-vars c =
    let now = c.loop-local in
    let none =
    at_drop_all (λ xs. vars_from Own now.cells (locals_variables (locals_of xs))) c.args.locals.now now.local-index c.loop-local-test.false
    in
    sym (append-nil _) ∙ (rw none at c.loop-local.invariant.vars)
