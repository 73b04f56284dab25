use Rattle.std.proofs.Common.{map, subst}
use Rattle.std.specs.Prelude.{IfSome, IfNone}
use Rattle.cilk_machine.specs.sched.Words.{choice_of}
use Rattle.cilk_explore.specs.Walks.{Walk}
use Rattle.cilk_explore.specs.Telling.{EndsBy}
use Rattle.cilk_explore.proofs.Ends.{ends-if, goes-if, GoesOn}
use Rattle.cilk_explore.proofs.walker.Walker.ending.Goals as goal

pub returns-in-Ok-clause-ends : goal.returns-in-Ok-clause-ends
returns-in-Ok-clause-ends c =
    subst (λ (walk : Walk). IfSome c.last.result (EndsBy walk)) c.self.view_is
    (ends-if c.self.inside.machine (map choice_of c.self.inside.log.items) c.self.invariant c.in-Ok.end c.in-Ok.ensures c.last.result c.last.ensures.some)

pub returns-in-Ok-clause-goes : goal.returns-in-Ok-clause-goes
returns-in-Ok-clause-goes c =
    subst (λ (walk : Walk). IfNone c.last.result (GoesOn walk)) c.self.view_is
    (goes-if c.self.inside.machine (map choice_of c.self.inside.log.items) c.self.invariant c.in-Ok.end c.in-Ok.ensures c.last.result c.last.ensures.none)
