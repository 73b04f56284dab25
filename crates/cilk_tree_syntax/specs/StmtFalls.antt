-- Each part of a statement, of what is declared in a block, and of a block is smaller than the whole.
use Rattle.std.specs.Prelude.{◌+◌, ◌≤◌, max, List, [], ◌∷◌, Some, None}
use Rattle.std.proofs.Common.{arith}
use denote.Param.Weighed.{most}
use Rattle.cilk_tree_syntax.specs.Tree.{Stmt, Local, stmts_of, locals_of}
use Rattle.cilk_tree_syntax.specs.StmtSize.{stmt_size, stmts_size, local_size, locals_size}
use Rattle.cilk_tree_syntax.specs.StmtView.{stmt_of, local_of}
use Rattle.cilk_tree_syntax.specs.declared.local.LocalNode.{LocalNode}
use Rattle.cilk_tree_syntax.specs.declared.local.LocalNode.TheVariants as node
use Rattle.cilk_tree_syntax.specs.declared.stmt.StmtNode.{StmtNode}
use Rattle.cilk_tree_syntax.specs.declared.stmt.StmtNode.TheVariants.{Move, Spawn, Print, Locking, Null, Sync, Abort, Break, Continue, Return, If}
use Rattle.cilk_tree_syntax.specs.declared.stmt.StmtNode.TheVariants.{While, Do, For, Switch, Labelled, Nested}
use Rattle.cilk_tree_syntax.specs.declared.block.Block.TheDeep.{deep-StmtNode, deep-LocalNode}

pub deep_le-stmt_size : (n : StmtNode) → max (deep-StmtNode n) 0 ≤ stmt_size (stmt_of n)
deep_le-stmt_size (Move what) = omega arith
deep_le-stmt_size (Spawn at taker callee arguments) = omega arith
deep_le-stmt_size (Print format arguments) = omega arith
deep_le-stmt_size (Locking action name) = omega arith
deep_le-stmt_size Null = omega arith
deep_le-stmt_size (Sync at) = omega arith
deep_le-stmt_size (Abort at) = omega arith
deep_le-stmt_size (Break at) = omega arith
deep_le-stmt_size (Continue at) = omega arith
deep_le-stmt_size (Return at value) = omega arith
deep_le-stmt_size (If test body None) = omega arith
deep_le-stmt_size (If test body (Some other)) = omega arith
deep_le-stmt_size (While test body) = omega arith
deep_le-stmt_size (Do body test) = omega arith
deep_le-stmt_size (For first test advance body) = omega arith
deep_le-stmt_size (Switch test body) = omega arith
deep_le-stmt_size (Labelled label) = omega arith
deep_le-stmt_size (Nested inside) = omega arith

pub deep_le-local_size : (n : LocalNode) → max (deep-LocalNode n) 0 ≤ local_size (local_of n)
deep_le-local_size (node.Decl decl) = omega arith
deep_le-local_size (node.Inlet inlet) = omega arith

most_le-stmts_size : (ss : List Stmt) → most (λ s. stmt_size s + 1) ss ≤ stmts_size (stmts_of ss)
most_le-stmts_size [] = omega arith
most_le-stmts_size (s ∷ ss) = omega (arith, most_le-stmts_size ss)

most_le-locals_size : (ls : List Local) → most (λ l. local_size l + 1) ls ≤ locals_size (locals_of ls)
most_le-locals_size [] = omega arith
most_le-locals_size (l ∷ ls) = omega (arith, most_le-locals_size ls)

pub deep_le-block_size : (ls : List Local) (ss : List Stmt)
    → max (most (λ l. local_size l + 1) ls) (max (most (λ s. stmt_size s + 1) ss) 0) ≤ locals_size (locals_of ls) + stmts_size (stmts_of ss)
deep_le-block_size ls ss = omega (arith, most_le-locals_size ls, most_le-stmts_size ss)
