use Rattle.std.proofs.Common.{length, sym, ap, subst, ◌∙◌, arith, length-append}
use Rattle.cilk_load.specs.Scope.{Scope, left_of}
use Rattle.cilk_load.proofs.Scopes.{Adds, adds-words, around, left-entered}
use Rattle.cilk_load.proofs.pass.Pass.put_inlet.Goals as goal

pub forget-requires : goal.forget-requires
forget-requires c =
    let adds = subst (λ (s : Scope). Adds (length c.args.parameters.now) c.enter-outer.new.self s)
    (sym (c.in_ok-put_onward.ensures.names ∙ c.in_ok-put_block.ensures.names ∙ c.in_ok-n.ensures.names))
    (adds-words c.vars_at.result.now 0 c.args.parameters.now c.enter-outer.new.self) in
    omega (arith, adds.size)

pub leave-requires : goal.leave-requires
leave-requires c =
    let adds = subst (λ (s : Scope). Adds (length c.args.parameters.now) c.enter-outer.new.self s)
    (sym (c.in_ok-put_onward.ensures.names ∙ c.in_ok-put_block.ensures.names ∙ c.in_ok-n.ensures.names))
    (adds-words c.vars_at.result.now 0 c.args.parameters.now c.enter-outer.new.self) in
    let back = around (length c.args.parameters.now) c.args.self.now.names c.enter-outer.new.self c.put_onward.new.self.names c.forget.new.self
    c.enter-outer.ensures.entered adds c.in_ok-forget.ensures in
    omega (arith, ap length back, length-append c.args.self.now.names.innermost c.args.self.now.names.outer, c.enter-outer.ensures.outer)

pub returns-clause-names : goal.returns-clause-names
returns-clause-names c =
    let adds = subst (λ (s : Scope). Adds (length c.args.parameters.now) c.enter-outer.new.self s)
    (sym (c.in_ok-put_onward.ensures.names ∙ c.in_ok-put_block.ensures.names ∙ c.in_ok-n.ensures.names))
    (adds-words c.vars_at.result.now 0 c.args.parameters.now c.enter-outer.new.self) in
    let back = around (length c.args.parameters.now) c.args.self.now.names c.enter-outer.new.self c.put_onward.new.self.names c.forget.new.self
    c.enter-outer.ensures.entered adds c.in_ok-forget.ensures in
    c.in_ok-leave.ensures
    ∙ ap (left_of c.enter-outer.result) back ∙ left-entered c.enter-outer.result c.args.self.now.names c.enter-outer.ensures.outer
