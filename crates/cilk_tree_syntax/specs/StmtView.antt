-- One level of a statement, and of what is declared in a block, in memory, as the plain trees that they are.
use Rattle.std.specs.Prelude.{Option, Some, None}
use Rattle.cilk_tree_syntax.specs.Tree as tree
use Rattle.cilk_tree_syntax.specs.MoveView.{taker_of}
use Rattle.cilk_tree_syntax.specs.declared.local.LocalNode.{LocalNode}
use Rattle.cilk_tree_syntax.specs.declared.local.LocalNode.TheVariants as node
use Rattle.cilk_tree_syntax.specs.declared.stmt.StmtNode.{StmtNode}
use Rattle.cilk_tree_syntax.specs.declared.stmt.StmtNode.TheVariants.{Move, Spawn, Print, Locking, Null, Sync, Abort, Break, Continue, Return, If}
use Rattle.cilk_tree_syntax.specs.declared.stmt.StmtNode.TheVariants.{While, Do, For, Switch, Labelled, Nested}

abbrev pub if_of : tree.Expr → tree.Block → Option tree.Block → tree.Stmt
if_of test body None = tree.when test body
if_of test body (Some other) = tree.either test body other

abbrev pub stmt_of : StmtNode → tree.Stmt
stmt_of (Move what) = tree.move what
stmt_of (Spawn at taker callee arguments) = tree.spawn_at at (taker_of taker) callee arguments.items
stmt_of (Print format arguments) = tree.print format arguments.items
stmt_of (Locking action name) = tree.locking action name
stmt_of Null = tree.null
stmt_of (Sync at) = tree.sync_at at
stmt_of (Abort at) = tree.abort_at at
stmt_of (Break at) = tree.break_at at
stmt_of (Continue at) = tree.continue_at at
stmt_of (Return at value) = tree.return_at at value
stmt_of (If test body other) = if_of test body other
stmt_of (While test body) = tree.while test body
stmt_of (Do body test) = tree.repeat body test
stmt_of (For first test advance body) = tree.loop first test advance body
stmt_of (Switch test body) = tree.switch test body
stmt_of (Labelled label) = tree.labelled label
stmt_of (Nested inside) = tree.nested inside

abbrev pub local_of : LocalNode → tree.Local
local_of (node.Decl decl) = tree.declared decl
local_of (node.Inlet inlet) = tree.inlet_at inlet.at inlet.name inlet.parameters.items inlet.body
