use Rattle.std.proofs.Common.{map, ap, ◌∙◌}
use Rattle.cilk_machine.specs.sched.Words.{choice_of}
use Rattle.cilk_explore.specs.Walks.{Walk}
use Rattle.cilk_explore.proofs.Strides.{seen-leads}
use Rattle.cilk_explore.proofs.walker.Walker.log.Goals as goal

pub returns-clause-value : goal.returns-clause-value
returns-clause-value c = ap (map choice_of) c.as_slice.ensures.value ∙ ap (λ (walk : Walk). walk.log) c.self.view_is

pub returns-clause-leads : goal.returns-clause-leads
returns-clause-leads c = seen-leads c.self.inside.machine c.self.inside.log.items c.args.self.now c.self.view_is c.self.invariant
