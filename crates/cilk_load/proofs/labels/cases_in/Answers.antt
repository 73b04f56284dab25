use Rattle.std.proofs.Common.{◌≡◌, ◌+◌, ◌-◌, ◌++◌, drop, sym, ap, ◌∙◌, arith, append_assoc, append-nil}
use Rattle.std.proofs.lemmas.List.{at_drop_all, at_drop_more}
use Rattle.cilk_tree_syntax.specs.Tree as tree
use Rattle.cilk_tree_syntax.specs.Tree.{stmts_of}
use Rattle.cilk_load_nodes.specs.labelled.Count.{count_stmt, count_stmts}
use Rattle.cilk_load.specs.Firsts.{first_if}
use Rattle.cilk_load.specs.Pass.{value_case, value_in, cases_in}
use Rattle.cilk_load.proofs.labels.cases_in.Goals as goal

pub loop-stmt-preserved : goal.loop-stmt-preserved
loop-stmt-preserved c =
    let before = c.loop-stmt.cases.items in
    let at = c.loop-stmt.at in
    let count = c.actions-count.result in
    let item = c.stmt-item.result in
    let rest = stmts_of (drop (c.loop-stmt.stmt-index + 1) c.args.stmts.now) in
    let more : stmts_of (drop c.loop-stmt.stmt-index c.args.stmts.now) ≡ tree.also item rest =
    at_drop_more stmts_of c.args.stmts.now c.loop-stmt.stmt-index item c.loop-stmt-test.true ∙ ap (λ (x : tree.Stmt). tree.also x rest) (sym c.stmt-item.is)
    in
    let left : c.loop-stmt.left - count ≡ count_stmts rest = omega (arith, c.loop-stmt.invariant.left, c.actions-count.ensures, ap count_stmts more) in
    let one = value_case (value_in item) (first_if (count_stmts rest) (at + count_stmt item) c.args.next) in
    record {
      cases =
          (λ i. c.in_ok-put_case.ensures i ++ cases_in (at + c.actions-count.ensures i) rest c.args.next)
          ∙ (λ i. (before ++ value_case (value_in item) (first_if (left i) (at + c.actions-count.ensures i) c.args.next))
          ++ cases_in (at + count_stmt item) rest c.args.next)
          ∙ append_assoc before one (cases_in (at + count_stmt item) rest c.args.next)
          ∙ ap (λ (ss : tree.Stmts). before ++ cases_in at ss c.args.next) (sym more)
          ∙ c.loop-stmt.invariant.cases;
      left = left;
      room = omega (arith, c.loop-stmt.invariant.room, c.actions-count.ensures, ap count_stmts more);
    }

pub returns : goal.returns
returns c =
    c.new.ensures
    ∙ sym (append-nil _)
    ∙ (rw (at_drop_all (λ xs. cases_in c.loop-stmt.at (stmts_of xs) c.args.next) c.args.stmts.now c.loop-stmt.stmt-index c.loop-stmt-test.false)
    at c.loop-stmt.invariant.cases)
