use Rattle.std.proofs.Common.{◌≡◌, ◌+◌, ◌++◌, List, drop, rules, refl, sym, ap, ◌∙◌, append-nil}
use Rattle.std.proofs.lemmas.List.{at_drop_all, at_drop_more}
use Rattle.cilk_tree_syntax.specs.Tree as tree
use Rattle.cilk_tree_syntax.specs.Tree.{locals_of, stmts_of}
use Rattle.cilk_load_nodes.specs.declared.area.Area.TheVariants.{Own}
use Rattle.cilk_load_nodes.specs.labelled.Label.{stmt_variables, stmts_variables, locals_variables, block_variables}
use Rattle.cilk_load_nodes.specs.Slots.{cells_of}
use Rattle.cilk_load_nodes.specs.Bodies.{vars_from}
use Rattle.cilk_load.proofs.Further.{further}
use Rattle.cilk_load.proofs.Cells.{joined, ok_behind, cells_of-append}
use Rattle.cilk_load.proofs.Results.{ok_same}
use Rattle.cilk_load.proofs.variables.+variables.Goals as goal

pub put_block_variables-returns-clause-vars : goal.put_block_variables-returns-clause-vars
put_block_variables-returns-clause-vars t c =
    let own = locals_variables (locals_of c.deref.result.now) in
    let inner = stmts_variables (stmts_of c.deref-2.result.now) in
    let all : own ++ inner ≡ block_variables c.args.block.now =
    (λ i. locals_variables (locals_of (c.deref.ensures.value i)) ++ stmts_variables (stmts_of (c.deref-2.ensures.value i))) ∙ ap block_variables c.block.view_is
    in
    ok_same c.put_stmts.result c.put_stmts.new.vars.items (c.put_locals.new.vars.items ++ vars_from Own c.in_ok-cells.cells inner) _ c.put_stmts.ensures.vars
    (joined Own c.args.cells c.in_ok-cells.cells c.args.vars.now.items c.put_locals.new.vars.items _ own inner c.in_ok-cells.ensures.vars
    c.in_ok-cells.ensures.after refl
    ∙ ap (λ vs. c.args.vars.now.items ++ vars_from Own c.args.cells vs) all)

pub put_block_variables-returns-clause-after : goal.put_block_variables-returns-clause-after
put_block_variables-returns-clause-after t c =
    let own = locals_variables (locals_of c.deref.result.now) in
    let inner = stmts_variables (stmts_of c.deref-2.result.now) in
    let all : own ++ inner ≡ block_variables c.args.block.now =
    (λ i. locals_variables (locals_of (c.deref.ensures.value i)) ++ stmts_variables (stmts_of (c.deref-2.ensures.value i))) ∙ ap block_variables c.block.view_is
    in
    ok_behind c.put_stmts.result c.args.cells c.in_ok-cells.cells own inner _ c.put_stmts.ensures.after c.in_ok-cells.ensures.after all

pub put_stmt-returns-in_ok-cells-in-If-default-default-Some-clause-after :
    goal.put_stmt-returns-in_ok-cells-in-If-default-default-Some-clause-after
put_stmt-returns-in_ok-cells-in-If-default-default-Some-clause-after t c =
    let arm = c.in-If-default-default-Some in
    let own = block_variables arm.body in
    let inner = block_variables arm.other in
    let all : own ++ inner ≡ stmt_variables c.args.stmt.now = search rules in
    let two = c.put_block_variables-in-If-default-default-Some-2 in
    let cells = c.in_ok-cells-in-If-default-default-Some in
    let last = rw arm.field-2-is at two.ensures.after in
    ok_behind two.result c.args.cells cells.cells own inner _ last cells.ensures.after all

pub put_stmt-returns-in_ok-cells-in-If-default-default-Some-clause-vars :
    goal.put_stmt-returns-in_ok-cells-in-If-default-default-Some-clause-vars
put_stmt-returns-in_ok-cells-in-If-default-default-Some-clause-vars t c =
    let arm = c.in-If-default-default-Some in
    let own = block_variables arm.body in
    let inner = block_variables arm.other in
    let all : own ++ inner ≡ stmt_variables c.args.stmt.now = search rules in
    let one = c.put_block_variables-in-If-default-default-Some in
    let two = c.put_block_variables-in-If-default-default-Some-2 in
    let cells = c.in_ok-cells-in-If-default-default-Some in
    let last = rw arm.field-2-is at two.ensures.vars in
    ok_same two.result two.new.vars.items (one.new.vars.items ++ vars_from Own cells.cells inner) _ last
    (joined Own c.args.cells cells.cells c.args.vars.now.items one.new.vars.items _ own inner cells.ensures.vars cells.ensures.after refl
    ∙ ap (λ vs. c.args.vars.now.items ++ vars_from Own c.args.cells vs) all)

pub put_stmts-loop-stmt-preserved : goal.put_stmts-loop-stmt-preserved
put_stmts-loop-stmt-preserved t c =
    let own = stmt_variables c.stmt-item.result in
    let others = stmts_variables (stmts_of (drop (c.loop-stmt.stmt-index + 1) c.args.stmts.now)) in
    let next : stmts_variables (stmts_of (drop c.loop-stmt.stmt-index c.args.stmts.now)) ≡ own ++ others =
    at_drop_more (λ (xs : List tree.Stmt). stmts_variables (stmts_of xs)) c.args.stmts.now c.loop-stmt.stmt-index c.stmt-item.result c.loop-stmt-test.true
    ∙ ap (λ (x : tree.Stmt). stmt_variables x ++ others) (sym c.stmt-item.is)
    in
    record {
      vars =
          joined Own c.loop-stmt.cells c.in_ok-cells.cells c.loop-stmt.vars.items c.put_stmt.new.vars.items _ own others c.in_ok-cells.ensures.vars
          c.in_ok-cells.ensures.after refl
          ∙ ap (λ vs. c.loop-stmt.vars.items ++ vars_from Own c.loop-stmt.cells vs) (sym next)
          ∙ c.loop-stmt.invariant.vars;
      cells =
          further c.loop-stmt.cells (cells_of own) (cells_of others) _ _ _ c.in_ok-cells.ensures.after (ap cells_of next ∙ cells_of-append own others)
          c.loop-stmt.invariant.cells;
    }

pub put_stmts-returns-clause-vars : goal.put_stmts-returns-clause-vars
put_stmts-returns-clause-vars t c =
    sym (append-nil _)
    ∙ (rw (at_drop_all (λ xs. vars_from Own c.loop-stmt.cells (stmts_variables (stmts_of xs))) c.args.stmts.now c.loop-stmt.stmt-index c.loop-stmt-test.false)
    at c.loop-stmt.invariant.vars)
