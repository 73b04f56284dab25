use Rattle.std.proofs.Common.{◌≡◌, ◌+◌, drop, rules, sym, ap, ◌∙◌, arith}
use Rattle.std.proofs.lemmas.List.{at_drop_more}
use Rattle.cilk_tree_syntax.specs.Tree as tree
use Rattle.cilk_tree_syntax.specs.Tree.{stmts_of}
use Rattle.cilk_load_nodes.specs.labelled.Count.{count_stmts}
use Rattle.cilk_load.specs.Pass.{default_in}
use Rattle.cilk_load.proofs.labels.default_in.Goals as goal

pub loop-stmt-preserved : goal.loop-stmt-preserved
loop-stmt-preserved c =
    let at = c.loop-stmt.at in
    let item = c.stmt-item.result in
    let rest = stmts_of (drop (c.loop-stmt.stmt-index + 1) c.args.stmts.now) in
    let more : stmts_of (drop c.loop-stmt.stmt-index c.args.stmts.now) ≡ tree.also item rest =
    at_drop_more stmts_of c.args.stmts.now c.loop-stmt.stmt-index item c.loop-stmt-test.true ∙ ap (λ (x : tree.Stmt). tree.also x rest) (sym c.stmt-item.is)
    in
    let later : default_in (at + c.actions-count.result) rest c.args.next ≡ default_in at (tree.also item rest) c.args.next = search rules in
    record {
      leads = later ∙ ap (λ (ss : tree.Stmts). default_in at ss c.args.next) (sym more) ∙ c.loop-stmt.invariant.leads;
      left = omega (arith, c.loop-stmt.invariant.left, c.actions-count.ensures, ap count_stmts more);
      room = omega (arith, c.loop-stmt.invariant.room, c.actions-count.ensures, ap count_stmts more);
    }
