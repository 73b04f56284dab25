use Rattle.std.proofs.Common.{List, Some, sym, ap, ◌∙◌}
use Rattle.cilk_tree_syntax.specs.Tree as tree
use Rattle.cilk_tree_syntax.specs.MoveView.{taker_of}
use Rattle.cilk_tree_syntax.specs.StmtView.{stmt_of}
use Rattle.cilk_load_nodes.specs.declared.action.Action.TheVariants.{Print}
use Rattle.cilk_load.specs.Acts.{codes_in, spawn_in, action_in}
use Rattle.cilk_load.proofs.Results.{one_same}
use Rattle.cilk_load.proofs.acts.action_in.Goals as goal

pub returns-in-Move : goal.returns-in-Move
returns-in-Move c =
    one_same c.move_in.result c.one.result _ _ c.move_in.ensures c.one.ensures
    (ap (λ (s : tree.Stmt). action_in c.args.names.now s) (ap stmt_of (sym c.in-Move.is) ∙ c.stmt.view_is))

pub returns-in-Spawn : goal.returns-in-Spawn
returns-in-Spawn c =
    one_same c.spawn_in.result c.one-in-Spawn.result _ _ c.spawn_in.ensures c.one-in-Spawn.ensures
    (ap (λ (es : List tree.Expr). Some (spawn_in c.args.names.now (taker_of c.in-Spawn.taker) c.in-Spawn.callee es)) c.deref.ensures.value
    ∙ ap (λ (s : tree.Stmt). action_in c.args.names.now s) (ap stmt_of (sym c.in-Spawn.is) ∙ c.stmt.view_is))

pub returns-in-Print : goal.returns-in-Print
returns-in-Print c =
    one_same c.print_in.result c.one-in-Print.result _ _ c.print_in.ensures c.one-in-Print.ensures
    (ap (λ (es : List tree.Expr). Some (Print c.in-Print.format.bytes (codes_in c.args.names.now es))) c.deref-in-Print.ensures.value
    ∙ ap (λ (s : tree.Stmt). action_in c.args.names.now s) (ap stmt_of (sym c.in-Print.is) ∙ c.stmt.view_is))

pub returns-in-Return : goal.returns-in-Return
returns-in-Return c =
    one_same c.return_in.result c.one-in-Return.result _ _ c.return_in.ensures c.one-in-Return.ensures
    (ap (λ (s : tree.Stmt). action_in c.args.names.now s) (ap stmt_of (sym c.in-Return.is) ∙ c.stmt.view_is))
