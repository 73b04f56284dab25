use Rattle.std.proofs.Common.{◌≡◌, ◌+◌, ◌++◌, length, vec_len, drop, sym, ap, ◌∙◌, append_assoc, append-nil, length-append}
use Rattle.std.proofs.lemmas.List.{at_drop_all, at_drop_more}
use Rattle.std.proofs.lemmas.Result.{IfOk-weaker}
use Rattle.cilk_tree_syntax.specs.Tree as tree
use Rattle.cilk_tree_syntax.specs.Tree.{locals_of, stmts_of}
use Rattle.cilk_tree_syntax.specs.StmtLines.{stmt_lines, stmts_lines, local_lines, locals_lines, block_lines}
use Rattle.cilk_tree_syntax.specs.StmtView.{stmt_of}
use Rattle.cilk_load_nodes.specs.labelled.Count.{count_local, count_locals, count_stmt, count_stmts}
use Rattle.cilk_load_nodes.specs.labelled.Lines.{stmt_action_lines, stmts_action_lines, local_action_lines, locals_action_lines}
use Rattle.cilk_load.proofs.Further.{further}
use Rattle.cilk_load.proofs.Results.{ok_same}
use Rattle.cilk_load.proofs.Switches.{lines-of-switch}
use Rattle.cilk_load.proofs.lines.+lines.Goals as goal

pub put_stmt-returns-in-Switch-clause-after : goal.put_stmt-returns-in-Switch-clause-after
put_stmt-returns-in-Switch-clause-after t c =
    let arm = c.in-Switch in
    let same : tree.switch arm.field-0 arm.body ≡ c.args.stmt.now = ap stmt_of (sym arm.is) ∙ c.stmt.view_is in
    IfOk-weaker c.put_opened-in-Switch.result (λ after. after ≡ c.args.line + (length (block_lines arm.body) + 2))
    (λ after. after ≡ c.args.line + length (stmt_lines c.args.stmt.now))
    (λ after e. e ∙ ap (λ k. c.args.line + k) (sym (lines-of-switch arm.field-0 arm.body)) ∙ ap (λ s. c.args.line + length (stmt_lines s)) same)
    c.put_opened-in-Switch.ensures.after

pub put_stmt-returns-in-While-clause-lines : goal.put_stmt-returns-in-While-clause-lines
put_stmt-returns-in-While-clause-lines t c =
    ok_same c.put_opened-in-While.result _ _ _ c.put_opened-in-While.ensures.lines
    (ap (λ (s : tree.Stmt). c.args.lines.now.items ++ stmt_action_lines c.args.line s) (ap stmt_of (sym c.in-While.is) ∙ c.stmt.view_is))

pub put_stmt-returns-in-While-clause-len : goal.put_stmt-returns-in-While-clause-len
put_stmt-returns-in-While-clause-len t c =
    ok_same c.put_opened-in-While.result _ _ _ c.put_opened-in-While.ensures.len
    (ap (λ (s : tree.Stmt). vec_len c.args.lines.now + count_stmt s) (ap stmt_of (sym c.in-While.is) ∙ c.stmt.view_is))

pub put_stmt-returns-in-Do-clause-lines : goal.put_stmt-returns-in-Do-clause-lines
put_stmt-returns-in-Do-clause-lines t c =
    ok_same c.put_closed.result _ _ _ c.put_closed.ensures.lines
    (ap (λ (s : tree.Stmt). c.args.lines.now.items ++ stmt_action_lines c.args.line s) (ap stmt_of (sym c.in-Do.is) ∙ c.stmt.view_is))

pub put_stmt-returns-in-Do-clause-len : goal.put_stmt-returns-in-Do-clause-len
put_stmt-returns-in-Do-clause-len t c =
    ok_same c.put_closed.result _ _ _ c.put_closed.ensures.len
    (ap (λ (s : tree.Stmt). vec_len c.args.lines.now + count_stmt s) (ap stmt_of (sym c.in-Do.is) ∙ c.stmt.view_is))

pub put_stmt-returns-in-For-clause-lines : goal.put_stmt-returns-in-For-clause-lines
put_stmt-returns-in-For-clause-lines t c =
    ok_same c.put_loop.result _ _ _ c.put_loop.ensures.lines
    (ap (λ (s : tree.Stmt). c.args.lines.now.items ++ stmt_action_lines c.args.line s) (ap stmt_of (sym c.in-For.is) ∙ c.stmt.view_is))

pub put_stmt-returns-in-For-clause-len : goal.put_stmt-returns-in-For-clause-len
put_stmt-returns-in-For-clause-len t c =
    ok_same c.put_loop.result _ _ _ c.put_loop.ensures.len
    (ap (λ (s : tree.Stmt). vec_len c.args.lines.now + count_stmt s) (ap stmt_of (sym c.in-For.is) ∙ c.stmt.view_is))

pub put_stmt-returns-in-Switch-clause-lines : goal.put_stmt-returns-in-Switch-clause-lines
put_stmt-returns-in-Switch-clause-lines t c =
    ok_same c.put_opened-in-Switch.result _ _ _ c.put_opened-in-Switch.ensures.lines
    (ap (λ (s : tree.Stmt). c.args.lines.now.items ++ stmt_action_lines c.args.line s) (ap stmt_of (sym c.in-Switch.is) ∙ c.stmt.view_is))

pub put_stmt-returns-in-Switch-clause-len : goal.put_stmt-returns-in-Switch-clause-len
put_stmt-returns-in-Switch-clause-len t c =
    ok_same c.put_opened-in-Switch.result _ _ _ c.put_opened-in-Switch.ensures.len
    (ap (λ (s : tree.Stmt). vec_len c.args.lines.now + count_stmt s) (ap stmt_of (sym c.in-Switch.is) ∙ c.stmt.view_is))

pub put_stmt-returns-in-Nested-clause-lines : goal.put_stmt-returns-in-Nested-clause-lines
put_stmt-returns-in-Nested-clause-lines t c =
    ok_same c.put_inside-in-Nested.result _ _ _ c.put_inside-in-Nested.ensures.lines
    (ap (λ (s : tree.Stmt). c.args.lines.now.items ++ stmt_action_lines c.args.line s) (ap stmt_of (sym c.in-Nested.is) ∙ c.stmt.view_is))

pub put_stmt-returns-in-Nested-clause-len : goal.put_stmt-returns-in-Nested-clause-len
put_stmt-returns-in-Nested-clause-len t c =
    ok_same c.put_inside-in-Nested.result _ _ _ c.put_inside-in-Nested.ensures.len
    (ap (λ (s : tree.Stmt). vec_len c.args.lines.now + count_stmt s) (ap stmt_of (sym c.in-Nested.is) ∙ c.stmt.view_is))

pub put_stmts-loop-stmt-preserved : goal.put_stmts-loop-stmt-preserved
put_stmts-loop-stmt-preserved t c =
    let before = c.loop-stmt.lines.items in
    let line = c.loop-stmt.line in
    let item = c.stmt-item.result in
    let rest = stmts_of (drop (c.loop-stmt.stmt-index + 1) c.args.stmts.now) in
    let more : stmts_of (drop c.loop-stmt.stmt-index c.args.stmts.now) ≡ tree.also item rest =
    at_drop_more stmts_of c.args.stmts.now c.loop-stmt.stmt-index item c.loop-stmt-test.true ∙ ap (λ (x : tree.Stmt). tree.also x rest) (sym c.stmt-item.is)
    in
    record {
      lines =
          (λ i. c.in_ok-line.ensures.lines i ++ stmts_action_lines (c.in_ok-line.ensures.after i) rest)
          ∙ append_assoc before (stmt_action_lines line item) (stmts_action_lines (line + length (stmt_lines item)) rest)
          ∙ ap (λ (xs : tree.Stmts). before ++ stmts_action_lines line xs) (sym more)
          ∙ c.loop-stmt.invariant.lines;
      len = further (vec_len c.loop-stmt.lines) (count_stmt item) (count_stmts rest) _ _ _ c.in_ok-line.ensures.len (ap count_stmts more)
          c.loop-stmt.invariant.len;
      line =
          further line (length (stmt_lines item)) (length (stmts_lines rest)) _ _ _ c.in_ok-line.ensures.after
          (ap (λ (xs : tree.Stmts). length (stmts_lines xs)) more ∙ length-append (stmt_lines item) (stmts_lines rest)) c.loop-stmt.invariant.line;
    }

pub put_locals-loop-local-preserved : goal.put_locals-loop-local-preserved
put_locals-loop-local-preserved t c =
    let before = c.loop-local.lines.items in
    let line = c.loop-local.line in
    let item = c.local-item.result in
    let rest = locals_of (drop (c.loop-local.local-index + 1) c.args.locals.now) in
    let more : locals_of (drop c.loop-local.local-index c.args.locals.now) ≡ tree.and_local item rest =
    at_drop_more locals_of c.args.locals.now c.loop-local.local-index item c.loop-local-test.true
    ∙ ap (λ (x : tree.Local). tree.and_local x rest) (sym c.local-item.is)
    in
    record {
      lines =
          (λ i. c.in_ok-line.ensures.lines i ++ locals_action_lines (c.in_ok-line.ensures.after i) rest)
          ∙ append_assoc before (local_action_lines line item) (locals_action_lines (line + length (local_lines item)) rest)
          ∙ ap (λ (xs : tree.Locals). before ++ locals_action_lines line xs) (sym more)
          ∙ c.loop-local.invariant.lines;
      len = further (vec_len c.loop-local.lines) (count_local item) (count_locals rest) _ _ _ c.in_ok-line.ensures.len (ap count_locals more)
          c.loop-local.invariant.len;
      line =
          further line (length (local_lines item)) (length (locals_lines rest)) _ _ _ c.in_ok-line.ensures.after
          (ap (λ (xs : tree.Locals). length (locals_lines xs)) more ∙ length-append (local_lines item) (locals_lines rest)) c.loop-local.invariant.line;
    }

pub put_stmts-returns-clause-lines : goal.put_stmts-returns-clause-lines
put_stmts-returns-clause-lines t c =
    sym (append-nil _)
    ∙ (rw (at_drop_all (λ xs. stmts_action_lines c.loop-stmt.line (stmts_of xs)) c.args.stmts.now c.loop-stmt.stmt-index c.loop-stmt-test.false)
    at c.loop-stmt.invariant.lines)

pub put_locals-returns-clause-lines : goal.put_locals-returns-clause-lines
put_locals-returns-clause-lines t c =
    sym (append-nil _)
    ∙ (rw (at_drop_all (λ xs. locals_action_lines c.loop-local.line (locals_of xs)) c.args.locals.now c.loop-local.local-index c.loop-local-test.false)
    at c.loop-local.invariant.lines)
