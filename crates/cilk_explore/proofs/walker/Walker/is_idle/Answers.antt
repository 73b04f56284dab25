use Rattle.cilk_explore.proofs.Strides.{seen-there}
use Rattle.cilk_explore.proofs.walker.Walker.is_idle.Goals as goal

pub returns : goal.returns
returns c = λ e at h.
    c.is_idle.ensures e at.standing (seen-there c.self.inside.machine c.self.inside.log.items c.args.self.now c.self.view_is c.self.invariant at h)
