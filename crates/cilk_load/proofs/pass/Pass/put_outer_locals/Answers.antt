use Rattle.std.proofs.Common.{◌≡◌, ◌+◌, ◌++◌, length, drop, vec_len, sym, ap, subst, ◌∙◌, arith, length-append}
use Rattle.std.proofs.lemmas.List.{at_drop_more}
use Rattle.cilk_tree_syntax.specs.Tree as tree
use Rattle.cilk_tree_syntax.specs.Tree.{locals_of}
use Rattle.cilk_tree_syntax.specs.StmtView.{local_of}
use Rattle.cilk_load_nodes.specs.labelled.Count.{count_locals}
use Rattle.cilk_load_nodes.specs.labelled.Label.{local_variables, locals_variables}
use Rattle.cilk_load_nodes.specs.Plain.{OuterLocals}
use Rattle.cilk_load.specs.Outer.{vars_at, outer_scope, outer_nodes}
use Rattle.cilk_load.proofs.Parts.{from-place, OuterPutsFirst, outer-decl-first, outer-inlet-first, outer-later}
use Rattle.cilk_load.proofs.pass.Pass.put_outer_locals.Goals as goal
use Rattle.cilk_load.proofs.pass.Pass.put_outer_locals.Goals.{in-Decl+in_ok-n-in-Decl, in-Inlet+in_ok-k-in-Inlet}

more : (c : goal.Joined-local)
    → locals_of (drop c.loop-i.i c.args.locals.now) ≡ tree.and_local c.index-locals-i.result (locals_of (drop (c.loop-i.i + 1) c.args.locals.now))
more c =
    at_drop_more locals_of c.args.locals.now c.loop-i.i c.index-locals-i.result c.loop-i-test.true
    ∙ ap (λ (x : tree.Local). tree.and_local x (locals_of (drop (c.loop-i.i + 1) c.args.locals.now))) (sym c.index-locals-i.is)

plain : (c : goal.Joined-local) → OuterLocals (tree.and_local c.index-locals-i.result (locals_of (drop (c.loop-i.i + 1) c.args.locals.now)))
plain c = subst OuterLocals (more c) c.loop-i.invariant.plain

puts-first : (c : goal.Joined-local)
    → OuterPutsFirst c.args.bodies.now c.args.b c.args.next c.loop-i.self.nodes.items c.match-local.self.nodes.items
    c.loop-i.self.names c.match-local.self.names
    (vec_len c.loop-i.self.nodes) (vec_len c.match-local.self.nodes) c.loop-i.k c.match-local.k c.loop-i.n c.match-local.n c.index-locals-i.result
    (locals_of (drop (c.loop-i.i + 1) c.args.locals.now))
puts-first c =
    elim c.match-local.branch [
      | in-Decl+in_ok-n-in-Decl w ↦
          outer-decl-first c.args.bodies.now c.args.b c.vars_at.result.now c.args.next c.loop-i.self.nodes.items
          c.match-local.self.nodes.items c.loop-i.self.names
          c.match-local.self.names (vec_len c.loop-i.self.nodes) (vec_len c.match-local.self.nodes) c.loop-i.k c.match-local.k c.loop-i.n c.match-local.n
          c.index-locals-i.result (locals_of (drop (c.loop-i.i + 1) c.args.locals.now)) _ w.in-Decl.decl
          (sym (ap local_of w.in-Decl.is) ∙ c.local.view_is) (ap locals_of (from-place (c.loop-i.i + 1) c.args.locals.now)) c.vars_at.ensures
          (ap (λ (p : _). p.nodes.items) w.self-is ∙ w.in_ok-n-in-Decl.ensures.nodes)
          (ap (λ (p : _). vec_len p.nodes) w.self-is ∙ w.in_ok-n-in-Decl.ensures.len)
          (ap (λ (p : _). p.names) w.self-is ∙ w.in_ok-n-in-Decl.ensures.names) w.k-is (w.n-is ∙ w.in_ok-n-in-Decl.ensures.after)
      | in-Inlet+in_ok-k-in-Inlet w ↦
          let inlet = w.in-Inlet.inlet in
          outer-inlet-first c.args.bodies.now c.args.b c.args.next c.loop-i.self.nodes.items c.match-local.self.nodes.items
          c.loop-i.self.names c.match-local.self.names
          (vec_len c.loop-i.self.nodes) (vec_len c.match-local.self.nodes) c.loop-i.k c.match-local.k c.loop-i.n c.match-local.n inlet.at
          c.index-locals-i.result (locals_of (drop (c.loop-i.i + 1) c.args.locals.now)) inlet.name inlet.parameters.items inlet.body
          (sym (ap local_of w.in-Inlet.is) ∙ c.local.view_is)
          (ap (λ (p : _). p.nodes.items) w.self-is ∙ w.in_ok-k-in-Inlet.ensures.nodes)
          (ap (λ (p : _). vec_len p.nodes) w.self-is ∙ w.in_ok-k-in-Inlet.ensures.len) (ap (λ (p : _). p.names) w.self-is ∙ w.in_ok-k-in-Inlet.ensures.names)
          (w.k-is ∙ w.in_ok-k-in-Inlet.ensures.after) w.n-is
    ]

pub loop-i-preserved : goal.loop-i-preserved
loop-i-preserved c =
    let t = puts-first c in
    let rest = locals_of (drop (c.loop-i.i + 1) c.args.locals.now) in
    record {
      nodes = t.nodes ∙ ap (λ (ls : tree.Locals). c.loop-i.self.nodes.items
          ++ outer_nodes c.args.bodies.now c.args.b c.loop-i.k c.loop-i.self.names (vec_len c.loop-i.self.nodes + 1) c.loop-i.n ls c.args.next) (sym (more c))
          ∙ c.loop-i.invariant.nodes;
      len = omega (arith, t.len, c.loop-i.invariant.len, ap count_locals (more c));
      names = t.names ∙ ap (λ (ls : tree.Locals). outer_scope (vars_at c.args.bodies.now c.args.b) c.loop-i.k c.loop-i.n ls c.loop-i.self.names)
          (sym (more c)) ∙ c.loop-i.invariant.names;
      variables = omega (
        arith,
        t.variables,
        c.loop-i.invariant.variables,
        ap (λ (ls : tree.Locals). length (locals_variables ls)) (more c),
        length-append (local_variables c.index-locals-i.result) (locals_variables rest),
      );
      plain = outer-later c.index-locals-i.result rest (plain c);
    }
