use Rattle.std.proofs.Common.{length, map, ap, Ok, arith}
use Rattle.cilk_machine.specs.sched.Words.{choice_of}
use Rattle.cilk_explore.specs.Walks.{Walk}
use Rattle.cilk_explore.proofs.Strides.{some-record}
use Rattle.cilk_explore.proofs.walker.Walker.back.Goals as goal

pub unreachable-requires : goal.unreachable-requires
unreachable-requires c =
    let size = ap (λ (walk : Walk). length walk.log) c.self.view_is in
    some-record c.self.inside.machine (map choice_of c.self.inside.log.items) c.self.invariant (c.in-Ok-false.ensures.none (ap Ok c.in-Ok-false.field-0-test))
    (omega (arith, size, c.requires))
