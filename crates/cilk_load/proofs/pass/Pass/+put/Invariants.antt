use Rattle.std.proofs.Common.{◌≡◌, ◌+◌, ◌++◌, drop, length, vec_len}
use Rattle.cilk_tree_syntax.specs.Tree.{stmts_of}
use Rattle.cilk_load_nodes.specs.labelled.Count.{count_stmts}
use Rattle.cilk_load_nodes.specs.labelled.Label.{stmts_variables}
use Rattle.cilk_load_nodes.specs.Plain.{PlainStmts}
use Rattle.cilk_load.specs.Pass.{stmts_nodes}
use Rattle.cilk_load.proofs.pass.Pass.+put.Given as goal

abbrev pub invariant-put_stmts-loop-stmt : goal.invariant-put_stmts-loop-stmt
invariant-put_stmts-loop-stmt l = record {
  nodes : l.self.nodes.items
      ++ stmts_nodes l.site.body l.site.vars.now l.self.names (vec_len l.self.nodes + 1) l.n (stmts_of (drop l.stmt-index l.stmts)) l.exits
      ≡ l.initial.self.nodes.items
      ++ stmts_nodes l.site.body l.site.vars.now l.initial.self.names (vec_len l.initial.self.nodes + 1) l.initial.n (stmts_of l.stmts)
      l.exits;
  len : vec_len l.self.nodes + count_stmts (stmts_of (drop l.stmt-index l.stmts)) ≡ vec_len l.initial.self.nodes + count_stmts (stmts_of l.stmts);
  left : l.left ≡ count_stmts (stmts_of (drop l.stmt-index l.stmts));
  names : l.self.names ≡ l.initial.self.names;
  variables : l.n + length (stmts_variables (stmts_of (drop l.stmt-index l.stmts))) ≡ l.initial.n + length (stmts_variables (stmts_of l.stmts));
  plain : PlainStmts (stmts_of (drop l.stmt-index l.stmts));
}
