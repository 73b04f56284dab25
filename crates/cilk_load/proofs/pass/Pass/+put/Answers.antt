use Rattle.std.proofs.Common.{◌≡◌, ◌+◌, ◌-◌, ◌++◌, List, length, drop, vec_len, rules, refl, sym, ap, subst, ◌∙◌, arith, length-append, append-nil}
use Rattle.std.proofs.lemmas.List.{at_drop_all, at_drop_more}
use Rattle.cilk_tree_syntax.specs.Tree as tree
use Rattle.cilk_tree_syntax.specs.Tree.{locals_of, stmts_of}
use Rattle.cilk_tree_syntax.specs.StmtView.{stmt_of}
use Rattle.cilk_load_nodes.specs.labelled.Count.{count_stmt, count_stmts}
use Rattle.cilk_load_nodes.specs.labelled.Label.{stmt_variables, stmts_variables}
use Rattle.cilk_load_nodes.specs.Plain.{PlainStmts, PlainBlock}
use Rattle.cilk_load.specs.Scope.{Scope}
use Rattle.cilk_load.specs.Firsts.{block_first}
use Rattle.cilk_load.specs.Pass.{block_nodes, stmt_nodes, stmts_nodes}
use Rattle.cilk_load.proofs.Results.{ok_same}
use Rattle.cilk_load.proofs.Scopes.{Adds, adds-locals, forgotten}
use Rattle.cilk_load.proofs.Parts.{block-written, tested, switch-written, while-written, do-written, for-written, either-written, stmts-first}
use Rattle.cilk_load.proofs.pass.Pass.+put.Goals as goal

pub put_block-forget-requires : goal.put_block-forget-requires
put_block-forget-requires t c =
    let count : length c.deref-3.result.now ≡ c.len.result = omega (arith, c.len.ensures, c.deref-3.ensures.len) in
    let block : tree.block (locals_of c.deref-3.result.now) (stmts_of c.block.inside.stmts.items) ≡ c.args.block.now
    = ap (λ (zs : List tree.Local). tree.block (locals_of zs) (stmts_of c.block.inside.stmts.items)) c.deref-3.ensures.value ∙ c.block.view_is in
    let plain = subst PlainBlock (sym block) c.requires.plain in
    let adds = subst (λ k. Adds k c.args.self.now.names c.put_stmts.new.self.names) count
    (subst (λ (s : Scope). Adds (length c.deref-3.result.now) c.args.self.now.names s) (sym (c.in_ok-n-2.ensures.names ∙ c.in_ok-n.ensures.names))
    (adds-locals c.args.site.vars.now c.args.n c.deref-3.result.now c.args.self.now.names plain.0)) in
    omega (arith, adds.size)

pub put_block-returns-clause-nodes : goal.put_block-returns-clause-nodes
put_block-returns-clause-nodes t c =
    block-written c.args.site.body c.args.site.vars.now c.args.self.now.names c.put_locals.new.self.names (vec_len c.args.self.now.nodes)
    (vec_len c.put_locals.new.self.nodes) c.at.result c.args.n c.in_ok-n.n c.actions_of_locals.result c.actions_of_stmts.result
    c.deref.result.now c.deref-3.result.now c.block.inside.locals.items c.deref-2.result.now c.deref-4.result.now c.block.inside.stmts.items
    c.args.block.now c.first_if-first.result c.args.exits c.args.self.now.nodes.items c.put_locals.new.self.nodes.items c.put_stmts.new.self.nodes.items
    c.deref.ensures.value c.deref-3.ensures.value c.deref-2.ensures.value c.deref-4.ensures.value c.block.view_is c.at.ensures
    c.actions_of_locals.ensures c.actions_of_stmts.ensures c.first_if-first.ensures
    c.in_ok-n.ensures.nodes c.in_ok-n.ensures.len c.in_ok-n.ensures.names c.in_ok-n.ensures.after c.in_ok-n-2.ensures.nodes

pub put_block-returns-clause-names : goal.put_block-returns-clause-names
put_block-returns-clause-names t c =
    let count : length c.deref-3.result.now ≡ c.len.result = omega (arith, c.len.ensures, c.deref-3.ensures.len) in
    let block : tree.block (locals_of c.deref-3.result.now) (stmts_of c.block.inside.stmts.items) ≡ c.args.block.now
    = ap (λ (zs : List tree.Local). tree.block (locals_of zs) (stmts_of c.block.inside.stmts.items)) c.deref-3.ensures.value ∙ c.block.view_is in
    let plain = subst PlainBlock (sym block) c.requires.plain in
    let adds = subst (λ k. Adds k c.args.self.now.names c.put_stmts.new.self.names) count
    (subst (λ (s : Scope). Adds (length c.deref-3.result.now) c.args.self.now.names s) (sym (c.in_ok-n-2.ensures.names ∙ c.in_ok-n.ensures.names))
    (adds-locals c.args.site.vars.now c.args.n c.deref-3.result.now c.args.self.now.names plain.0)) in
    c.in_ok-forget.ensures ∙ forgotten c.len.result c.args.self.now.names c.put_stmts.new.self.names adds

pub put_when-returns-clause-nodes : goal.put_when-returns-clause-nodes
put_when-returns-clause-nodes t c =
    let site = c.args.site in
    let opening : c.block_first-first.result ≡ block_first (vec_len c.args.self.now.nodes + 1 + 1) c.args.body.now c.args.exits.next =
    c.block_first-first.ensures ∙ ap (λ k. block_first (k + 1) c.args.body.now c.args.exits.next) c.at.ensures in
    ok_same c.put_block.result c.put_block.new.self.nodes.items
    (c.put_test.new.self.nodes.items ++ block_nodes site.body site.vars.now c.put_test.new.self.names (vec_len c.put_test.new.self.nodes + 1) c.args.n
    c.args.body.now c.args.exits) _ c.put_block.ensures.nodes
    (tested site.body site.vars.now c.args.self.now.names c.put_test.new.self.names (vec_len c.args.self.now.nodes)
    (vec_len c.put_test.new.self.nodes) c.args.n c.args.test.now c.args.body.now c.block_first-first.result _ c.args.other c.args.exits
    c.args.self.now.nodes.items c.put_test.new.self.nodes.items _ opening c.in_ok-put_test.ensures.nodes c.in_ok-put_test.ensures.len
    c.in_ok-put_test.ensures.names refl)

pub put_when-returns-clause-names : goal.put_when-returns-clause-names
put_when-returns-clause-names t c =
    ok_same c.put_block.result c.put_block.new.self.names c.put_test.new.self.names c.args.self.now.names c.put_block.ensures.names
    c.in_ok-put_test.ensures.names

pub put_switch-returns-clause-nodes : goal.put_switch-returns-clause-nodes
put_switch-returns-clause-nodes t c =
    let site = c.args.site in
    ok_same c.put_block.result c.put_block.new.self.nodes.items
    (c.put_switch_test.new.self.nodes.items ++ block_nodes site.body site.vars.now c.put_switch_test.new.self.names
    (vec_len c.put_switch_test.new.self.nodes + 1) c.args.n c.args.body.now c.in_switch.result) _ c.put_block.ensures.nodes
    (switch-written site.body site.vars.now c.args.self.now.names c.put_switch_test.new.self.names (vec_len c.args.self.now.nodes)
    (vec_len c.put_switch_test.new.self.nodes) c.args.n c.args.test.now c.args.body.now c.args.exits c.in_switch.result
    c.args.self.now.nodes.items c.put_switch_test.new.self.nodes.items _ c.in_switch.ensures
    c.in_ok-put_switch_test.ensures.nodes c.in_ok-put_switch_test.ensures.len c.in_ok-put_switch_test.ensures.names refl)

pub put_switch-returns-clause-names : goal.put_switch-returns-clause-names
put_switch-returns-clause-names t c =
    ok_same c.put_block.result c.put_block.new.self.names c.put_switch_test.new.self.names c.args.self.now.names c.put_block.ensures.names
    c.in_ok-put_switch_test.ensures.names

pub put_while-returns-clause-nodes : goal.put_while-returns-clause-nodes
put_while-returns-clause-nodes t c =
    let site = c.args.site in
    ok_same c.put_block.result c.put_block.new.self.nodes.items
    (c.put_test.new.self.nodes.items ++ block_nodes site.body site.vars.now c.put_test.new.self.names (vec_len c.put_test.new.self.nodes + 1) c.args.n
    c.args.body.now c.in_loop.result) _ c.put_block.ensures.nodes
    (while-written site.body site.vars.now c.args.self.now.names c.put_test.new.self.names (vec_len c.args.self.now.nodes)
    (vec_len c.put_test.new.self.nodes) c.args.n c.at-mark.result c.args.test.now c.args.body.now c.block_first-first.result c.args.exits
    c.in_loop.result c.args.self.now.nodes.items c.put_test.new.self.nodes.items _ c.at-mark.ensures c.block_first-first.ensures c.in_loop.ensures
    c.in_ok-put_test.ensures.nodes c.in_ok-put_test.ensures.len c.in_ok-put_test.ensures.names refl)

pub put_while-returns-clause-names : goal.put_while-returns-clause-names
put_while-returns-clause-names t c =
    ok_same c.put_block.result c.put_block.new.self.names c.put_test.new.self.names c.args.self.now.names c.put_block.ensures.names
    c.in_ok-put_test.ensures.names

pub put_do-returns-clause-nodes : goal.put_do-returns-clause-nodes
put_do-returns-clause-nodes t c =
    let site = c.args.site in
    do-written site.body site.vars.now c.args.self.now.names c.put_block.new.self.names (vec_len c.args.self.now.nodes) c.args.n c.at-at.result
    c.actions_in.result c.args.test.now c.args.body.now c.block_first-first.result c.args.exits c.in_loop.result c.args.self.now.nodes.items
    c.put_block.new.self.nodes.items c.put_test.new.self.nodes.items c.at-at.ensures c.actions_in.ensures c.block_first-first.ensures
    c.in_loop.ensures c.in_ok-n.ensures.nodes c.in_ok-n.ensures.names c.in_ok-put_test.ensures.nodes

pub put_do-returns-clause-names : goal.put_do-returns-clause-names
put_do-returns-clause-names t c = c.in_ok-put_test.ensures.names ∙ c.in_ok-n.ensures.names

pub put_for-returns-clause-names : goal.put_for-returns-clause-names
put_for-returns-clause-names t c =
    ok_same c.put_block.result c.put_block.new.self.names c.put_part-2.new.self.names c.args.self.now.names c.put_block.ensures.names
    (c.in_ok-put_part-2.ensures.names ∙ c.in_ok-put_test.ensures.names ∙ c.in_ok-put_part.ensures.names)

pub put_for-returns-clause-nodes : goal.put_for-returns-clause-nodes
put_for-returns-clause-nodes t c =
    let rounds = c.args.rounds in
    let inside = c.at.result + c.count_part.result + 1 + c.count_part-2.result in
    let round : inside - 1 + 1 ≡ inside = omega arith in
    ok_same c.put_block.result c.put_block.new.self.nodes.items
    (c.put_part-2.new.self.nodes.items ++ block_nodes c.args.site.body c.args.site.vars.now c.put_part-2.new.self.names
    (vec_len c.put_part-2.new.self.nodes + 1) c.args.n c.args.body.now c.in_loop.result) _ c.put_block.ensures.nodes
    (for-written c.args.site.body c.args.site.vars.now c.args.self.now.names c.put_part.new.self.names c.put_test.new.self.names
    c.put_part-2.new.self.names (vec_len c.args.self.now.nodes) (vec_len c.put_part.new.self.nodes) (vec_len c.put_test.new.self.nodes)
    (vec_len c.put_part-2.new.self.nodes) c.args.n c.at.result c.count_part.result c.count_part-2.result (inside - 1) rounds.first.now
    rounds.test.now rounds.advance.now c.args.body.now c.block_first-entry.result c.args.exits c.in_loop.result c.args.self.now.nodes.items
    c.put_part.new.self.nodes.items c.put_test.new.self.nodes.items c.put_part-2.new.self.nodes.items _
    c.at.ensures c.count_part.ensures c.count_part-2.ensures round c.block_first-entry.ensures c.in_loop.ensures
    c.in_ok-put_part.ensures.nodes c.in_ok-put_part.ensures.len c.in_ok-put_part.ensures.names
    c.in_ok-put_test.ensures.nodes c.in_ok-put_test.ensures.len c.in_ok-put_test.ensures.names
    c.in_ok-put_part-2.ensures.nodes c.in_ok-put_part-2.ensures.len c.in_ok-put_part-2.ensures.names refl)

pub put_stmt-returns-in_ok-n-in-If-default-default-Some-clause-nodes :
    goal.put_stmt-returns-in_ok-n-in-If-default-default-Some-clause-nodes
put_stmt-returns-in_ok-n-in-If-default-default-Some-clause-nodes t c =
    let arm = c.in-If-default-default-Some in
    let n = c.in_ok-n-in-If-default-default-Some in
    let view : tree.either arm.test arm.body arm.other ≡ c.args.stmt.now = search rules in
    let when = c.put_when-in-If-default-default-Some in
    let second = rw arm.field-2-is at c.block_first-second.ensures in
    let last = rw arm.field-2-is at c.put_block.ensures.nodes in
    ok_same c.put_block.result c.put_block.new.self.nodes.items
    (when.new.self.nodes.items ++ block_nodes c.args.site.body c.args.site.vars.now when.new.self.names (vec_len when.new.self.nodes + 1) n.n arm.other
    c.args.exits) _ last
    (either-written c.args.site.body c.args.site.vars.now c.args.self.now.names when.new.self.names (vec_len c.args.self.now.nodes)
    (vec_len when.new.self.nodes) c.args.n
    n.n c.at.result c.actions_in.result arm.test arm.body arm.other c.args.stmt.now c.block_first-second.result c.args.exits c.args.self.now.nodes.items
    when.new.self.nodes.items _
    view c.at.ensures c.actions_in.ensures second n.ensures.nodes n.ensures.len n.ensures.names n.ensures.after refl)

pub put_stmt-returns-in-While-clause-nodes : goal.put_stmt-returns-in-While-clause-nodes
put_stmt-returns-in-While-clause-nodes t c =
    ok_same c.put_while.result _ _ _ c.put_while.ensures.nodes
    (ap (λ (s : tree.Stmt). c.args.self.now.nodes.items
    ++ stmt_nodes c.args.site.body c.args.site.vars.now c.args.self.now.names (vec_len c.args.self.now.nodes + 1) c.args.n s c.args.exits)
    (ap stmt_of (sym c.in-While.is) ∙ c.stmt.view_is))

pub put_stmt-returns-in-While-clause-len : goal.put_stmt-returns-in-While-clause-len
put_stmt-returns-in-While-clause-len t c =
    ok_same c.put_while.result _ _ _ c.put_while.ensures.len
    (ap (λ (s : tree.Stmt). vec_len c.args.self.now.nodes + count_stmt s) (ap stmt_of (sym c.in-While.is) ∙ c.stmt.view_is))

pub put_stmt-returns-in-Do-clause-nodes : goal.put_stmt-returns-in-Do-clause-nodes
put_stmt-returns-in-Do-clause-nodes t c =
    ok_same c.put_do.result _ _ _ c.put_do.ensures.nodes
    (ap (λ (s : tree.Stmt). c.args.self.now.nodes.items
    ++ stmt_nodes c.args.site.body c.args.site.vars.now c.args.self.now.names (vec_len c.args.self.now.nodes + 1) c.args.n s c.args.exits)
    (ap stmt_of (sym c.in-Do.is) ∙ c.stmt.view_is))

pub put_stmt-returns-in-Do-clause-len : goal.put_stmt-returns-in-Do-clause-len
put_stmt-returns-in-Do-clause-len t c =
    ok_same c.put_do.result _ _ _ c.put_do.ensures.len
    (ap (λ (s : tree.Stmt). vec_len c.args.self.now.nodes + count_stmt s) (ap stmt_of (sym c.in-Do.is) ∙ c.stmt.view_is))

pub put_stmt-returns-in-Switch-clause-nodes : goal.put_stmt-returns-in-Switch-clause-nodes
put_stmt-returns-in-Switch-clause-nodes t c =
    ok_same c.put_switch.result _ _ _ c.put_switch.ensures.nodes
    (ap (λ (s : tree.Stmt). c.args.self.now.nodes.items
    ++ stmt_nodes c.args.site.body c.args.site.vars.now c.args.self.now.names (vec_len c.args.self.now.nodes + 1) c.args.n s c.args.exits)
    (ap stmt_of (sym c.in-Switch.is) ∙ c.stmt.view_is))

pub put_stmt-returns-in-Switch-clause-len : goal.put_stmt-returns-in-Switch-clause-len
put_stmt-returns-in-Switch-clause-len t c =
    ok_same c.put_switch.result _ _ _ c.put_switch.ensures.len
    (ap (λ (s : tree.Stmt). vec_len c.args.self.now.nodes + count_stmt s) (ap stmt_of (sym c.in-Switch.is) ∙ c.stmt.view_is))

pub put_stmt-returns-in-Nested-clause-nodes : goal.put_stmt-returns-in-Nested-clause-nodes
put_stmt-returns-in-Nested-clause-nodes t c =
    ok_same c.put_block-in-Nested.result _ _ _ c.put_block-in-Nested.ensures.nodes
    (ap (λ (s : tree.Stmt). c.args.self.now.nodes.items
    ++ stmt_nodes c.args.site.body c.args.site.vars.now c.args.self.now.names (vec_len c.args.self.now.nodes + 1) c.args.n s c.args.exits)
    (ap stmt_of (sym c.in-Nested.is) ∙ c.stmt.view_is))

pub put_stmt-returns-in-Nested-clause-len : goal.put_stmt-returns-in-Nested-clause-len
put_stmt-returns-in-Nested-clause-len t c =
    ok_same c.put_block-in-Nested.result _ _ _ c.put_block-in-Nested.ensures.len
    (ap (λ (s : tree.Stmt). vec_len c.args.self.now.nodes + count_stmt s) (ap stmt_of (sym c.in-Nested.is) ∙ c.stmt.view_is))

pub put_stmts-loop-stmt-preserved : goal.put_stmts-loop-stmt-preserved
put_stmts-loop-stmt-preserved t c =
    let item = c.stmt-item.result in
    let rest = stmts_of (drop (c.loop-stmt.stmt-index + 1) c.args.stmts.now) in
    let more : stmts_of (drop c.loop-stmt.stmt-index c.args.stmts.now) ≡ tree.also item rest =
    at_drop_more stmts_of c.args.stmts.now c.loop-stmt.stmt-index item c.loop-stmt-test.true ∙ ap (λ (x : tree.Stmt). tree.also x rest) (sym c.stmt-item.is)
    in
    let left : c.loop-stmt.left - c.actions-count.result ≡ count_stmts rest = omega
    (arith, c.loop-stmt.invariant.left, c.actions-count.ensures, ap count_stmts more) in
    record {
      nodes =
          stmts-first c.args.site.body c.args.site.vars.now c.loop-stmt.self.names c.put_stmt.new.self.names (vec_len c.loop-stmt.self.nodes)
          (vec_len c.put_stmt.new.self.nodes) c.loop-stmt.n c.in_ok-n.n c.at.result c.actions-count.result (c.loop-stmt.left - c.actions-count.result)
          item rest c.first_if-next.result c.args.exits c.exits_to.result c.loop-stmt.self.nodes.items c.put_stmt.new.self.nodes.items
          c.at.ensures c.actions-count.ensures left c.first_if-next.ensures c.exits_to.ensures c.in_ok-n.ensures.nodes c.in_ok-n.ensures.len
          c.in_ok-n.ensures.names c.in_ok-n.ensures.after
          ∙ ap (λ (ss : tree.Stmts). c.loop-stmt.self.nodes.items
          ++ stmts_nodes c.args.site.body c.args.site.vars.now c.loop-stmt.self.names (vec_len c.loop-stmt.self.nodes + 1) c.loop-stmt.n ss c.args.exits)
          (sym more)
          ∙ c.loop-stmt.invariant.nodes;
      len = omega (arith, c.in_ok-n.ensures.len, c.loop-stmt.invariant.len, ap count_stmts more);
      left = left;
      names = c.in_ok-n.ensures.names ∙ c.loop-stmt.invariant.names;
      variables = omega (
        arith,
        c.in_ok-n.ensures.after,
        c.loop-stmt.invariant.variables,
        ap (λ (ss : tree.Stmts). length (stmts_variables ss)) more,
        length-append (stmt_variables item) (stmts_variables rest),
      );
      plain = (subst PlainStmts more c.loop-stmt.invariant.plain).1;
    }

pub put_stmts-returns-clause-nodes : goal.put_stmts-returns-clause-nodes
put_stmts-returns-clause-nodes t c =
    let now = c.loop-stmt in
    let none =
    at_drop_all (λ xs. stmts_nodes c.args.site.body c.args.site.vars.now now.self.names (vec_len now.self.nodes + 1) now.n (stmts_of xs) c.args.exits)
    c.args.stmts.now now.stmt-index c.loop-stmt-test.false
    in
    sym (append-nil _) ∙ (rw none at c.loop-stmt.invariant.nodes)
