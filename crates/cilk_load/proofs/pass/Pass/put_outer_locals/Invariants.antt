use Rattle.std.proofs.Common.{◌≡◌, ◌+◌, ◌++◌, drop, length, vec_len}
use Rattle.cilk_tree_syntax.specs.Tree.{locals_of}
use Rattle.cilk_load_nodes.specs.labelled.Count.{count_locals}
use Rattle.cilk_load_nodes.specs.labelled.Label.{locals_variables}
use Rattle.cilk_load_nodes.specs.Plain.{OuterLocals}
use Rattle.cilk_load.specs.Outer.{vars_at, outer_scope, outer_nodes}
use Rattle.cilk_load.proofs.pass.Pass.put_outer_locals.Given as goal

abbrev pub invariant-loop-i : goal.invariant-loop-i
invariant-loop-i l = record {
  nodes : l.self.nodes.items
      ++ outer_nodes l.bodies l.b l.k l.self.names (vec_len l.self.nodes + 1) l.n (locals_of (drop l.i l.locals)) l.next
      ≡ l.initial.self.nodes.items
      ++ outer_nodes l.bodies l.b l.initial.k l.initial.self.names (vec_len l.initial.self.nodes + 1) l.initial.n (locals_of l.locals) l.next;
  len : vec_len l.self.nodes + count_locals (locals_of (drop l.i l.locals)) ≡ vec_len l.initial.self.nodes + count_locals (locals_of l.locals);
  names : outer_scope (vars_at l.bodies l.b) l.k l.n (locals_of (drop l.i l.locals)) l.self.names ≡ outer_scope (vars_at l.bodies l.b) l.initial.k l.initial.n
      (locals_of l.locals) l.initial.self.names;
  variables : l.n + length (locals_variables (locals_of (drop l.i l.locals))) ≡ l.initial.n + length (locals_variables (locals_of l.locals));
  plain : OuterLocals (locals_of (drop l.i l.locals));
}
