use Rattle.std.proofs.Common.{◌≡◌, ◌+◌, length, vec_len, rules, sym, subst, ◌∙◌, arith}
use Rattle.cilk_load.specs.Scope.{Scope}
use Rattle.cilk_load.specs.Outer.{vars_at}
use Rattle.cilk_load.proofs.Parts.{body-written}
use Rattle.cilk_load.proofs.Scopes.{Adds, adds-outer, forgotten}
use Rattle.cilk_load.proofs.pass.Pass.put_body.Goals as goal

pub forget-requires : goal.forget-requires
forget-requires c =
    let count : length c.deref-3.result.now ≡ c.len.result = omega (arith, c.len.ensures, c.deref-3.ensures.len) in
    let adds = subst (λ k. Adds k c.args.self.now.names c.put_onward.new.self.names) count
    (subst (λ (s : Scope). Adds (length c.deref-3.result.now) c.args.self.now.names s)
    (sym (c.in_ok-put_onward.ensures.names ∙ c.in_ok-put_stmts.ensures.names ∙ c.in_ok-n.ensures.names))
    (adds-outer (vars_at c.args.bodies.now c.args.b) c.in_ok-k.k c.args.n c.deref-3.result.now c.args.self.now.names)) in
    omega (arith, adds.size)

pub returns-clause-nodes : goal.returns-clause-nodes
returns-clause-nodes c =
    let next : c.in_ok-k.k ≡ c.args.b + 1 = search rules in
    body-written c.args.bodies.now c.vars_at.result.now c.args.b c.in_ok-k.k c.args.self.now.names c.put_outer_locals.new.self.names
    (vec_len c.args.self.now.nodes)
    (vec_len c.put_outer_locals.new.self.nodes) c.at.result c.args.n c.in_ok-n.n c.actions_of_locals.result c.actions_of_stmts-stmts.result
    c.deref.result.now c.deref-3.result.now c.block.inside.locals.items c.deref-2.result.now c.deref-4.result.now c.block.inside.stmts.items
    c.args.block.now c.first_if-first.result c.body_exits.result c.args.self.now.nodes.items c.put_outer_locals.new.self.nodes.items
    c.put_stmts.new.self.nodes.items
    c.put_onward.new.self.nodes.items
    c.deref.ensures.value c.deref-3.ensures.value c.deref-2.ensures.value c.deref-4.ensures.value c.block.view_is c.at.ensures
    c.actions_of_locals.ensures c.actions_of_stmts-stmts.ensures c.first_if-first.ensures c.body_exits.ensures
    c.vars_at.ensures next c.in_ok-n.ensures.nodes c.in_ok-n.ensures.len c.in_ok-n.ensures.names c.in_ok-n.ensures.after c.in_ok-put_stmts.ensures.nodes
    c.in_ok-put_onward.ensures.nodes

pub returns-clause-names : goal.returns-clause-names
returns-clause-names c =
    let count : length c.deref-3.result.now ≡ c.len.result = omega (arith, c.len.ensures, c.deref-3.ensures.len) in
    let adds = subst (λ k. Adds k c.args.self.now.names c.put_onward.new.self.names) count
    (subst (λ (s : Scope). Adds (length c.deref-3.result.now) c.args.self.now.names s)
    (sym (c.in_ok-put_onward.ensures.names ∙ c.in_ok-put_stmts.ensures.names ∙ c.in_ok-n.ensures.names))
    (adds-outer (vars_at c.args.bodies.now c.args.b) c.in_ok-k.k c.args.n c.deref-3.result.now c.args.self.now.names)) in
    c.in_ok-forget.ensures ∙ forgotten c.len.result c.args.self.now.names c.put_onward.new.self.names adds
