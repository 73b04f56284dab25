use Rattle.std.proofs.Common.{◌≡◌, ◌++◌, string_bytes, drop}
use Rattle.cilk_tree_syntax.specs.MoveText.{next_exprs_text}
use Rattle.cilk_tree.proofs.expr.put_next_exprs.Given as goal

abbrev pub invariant-loop-expr : goal.invariant-loop-expr
invariant-loop-expr l = string_bytes l.out ++ next_exprs_text (drop l.expr-index l.exprs) ≡ string_bytes l.initial.out ++ next_exprs_text l.exprs
