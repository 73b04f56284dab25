use Rattle.std.proofs.Common.{sym, ap, ◌∙◌}
use Rattle.cilk_explore.specs.Walks.{Walk}
use Rattle.cilk_explore.proofs.Strides.{seen-there}
use Rattle.cilk_explore.proofs.walker.Walker.is_same_but_names.Goals as goal

pub is_same_but_names-requires : goal.is_same_but_names-requires
is_same_but_names-requires c =
    ap (λ (walk : Walk). walk.program) c.other.view_is ∙ c.requires ∙ sym (ap (λ (walk : Walk). walk.program) c.self.view_is)

pub returns : goal.returns
returns c = λ e a b here there.
    c.is_same_but_names.ensures e a.standing b.standing
    (seen-there c.self.inside.machine c.self.inside.log.items c.args.self.now c.self.view_is c.self.invariant a here)
    (seen-there c.other.inside.machine c.other.inside.log.items c.args.other.now c.other.view_is c.other.invariant b there)
