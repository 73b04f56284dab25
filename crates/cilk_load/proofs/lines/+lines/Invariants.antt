use Rattle.std.proofs.Common.{◌≡◌, ◌+◌, ◌++◌, drop, length, vec_len}
use Rattle.cilk_tree_syntax.specs.Tree.{stmts_of, locals_of}
use Rattle.cilk_tree_syntax.specs.StmtLines.{locals_lines, stmts_lines}
use Rattle.cilk_load_nodes.specs.labelled.Count.{count_locals, count_stmts}
use Rattle.cilk_load_nodes.specs.labelled.Lines.{locals_action_lines, stmts_action_lines}
use Rattle.cilk_load.proofs.lines.+lines.Given as goal

abbrev pub invariant-put_locals-loop-local : goal.invariant-put_locals-loop-local
invariant-put_locals-loop-local l = record {
  lines : l.lines.items ++ locals_action_lines l.line (locals_of (drop l.local-index l.locals)) ≡ l.initial.lines.items
      ++ locals_action_lines l.initial.line (locals_of l.locals);
  len : vec_len l.lines + count_locals (locals_of (drop l.local-index l.locals)) ≡ vec_len l.initial.lines + count_locals (locals_of l.locals);
  line : l.line + length (locals_lines (locals_of (drop l.local-index l.locals))) ≡ l.initial.line + length (locals_lines (locals_of l.locals));
}

abbrev pub invariant-put_stmts-loop-stmt : goal.invariant-put_stmts-loop-stmt
invariant-put_stmts-loop-stmt l = record {
  lines : l.lines.items ++ stmts_action_lines l.line (stmts_of (drop l.stmt-index l.stmts)) ≡ l.initial.lines.items
      ++ stmts_action_lines l.initial.line (stmts_of l.stmts);
  len : vec_len l.lines + count_stmts (stmts_of (drop l.stmt-index l.stmts)) ≡ vec_len l.initial.lines + count_stmts (stmts_of l.stmts);
  line : l.line + length (stmts_lines (stmts_of (drop l.stmt-index l.stmts))) ≡ l.initial.line + length (stmts_lines (stmts_of l.stmts));
}
