use Rattle.std.proofs.Common.{◌≡◌, ◌+◌, ◌++◌, drop, length, vec_len}
use Rattle.cilk_tree_syntax.specs.Tree.{locals_of}
use Rattle.cilk_load_nodes.specs.labelled.Count.{count_locals}
use Rattle.cilk_load_nodes.specs.labelled.Label.{locals_variables}
use Rattle.cilk_load_nodes.specs.Plain.{PlainLocals}
use Rattle.cilk_load.specs.Pass.{locals_scope, locals_nodes}
use Rattle.cilk_load.proofs.pass.Pass.put_locals.Given as goal

abbrev pub invariant-loop-i : goal.invariant-loop-i
invariant-loop-i l = record {
  nodes : l.self.nodes.items ++ locals_nodes l.site.body l.site.vars.now l.self.names (vec_len l.self.nodes + 1) l.n (locals_of (drop l.i l.locals)) l.next
      ≡ l.initial.self.nodes.items
      ++ locals_nodes l.site.body l.site.vars.now l.initial.self.names (vec_len l.initial.self.nodes + 1) l.initial.n (locals_of l.locals)
      l.next;
  len : vec_len l.self.nodes + count_locals (locals_of (drop l.i l.locals)) ≡ vec_len l.initial.self.nodes + count_locals (locals_of l.locals);
  names : locals_scope l.site.vars.now l.n (locals_of (drop l.i l.locals)) l.self.names ≡ locals_scope l.site.vars.now l.initial.n (locals_of l.locals)
      l.initial.self.names;
  variables : l.n + length (locals_variables (locals_of (drop l.i l.locals))) ≡ l.initial.n + length (locals_variables (locals_of l.locals));
  plain : PlainLocals (locals_of (drop l.i l.locals));
}
