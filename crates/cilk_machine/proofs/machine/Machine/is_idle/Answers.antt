use Rattle.std.proofs.Common.{◌≡◌, ap, ◌∙◌, arith}
use Rattle.cilk_sched.specs.model.Hands.{IsWorker}
use Rattle.cilk_machine.specs.Situation.{workers_of}
use Rattle.cilk_machine.proofs.Nothing.{idle_there}
use Rattle.cilk_machine.proofs.machine.Machine.is_idle.Goals as goal

pub has_nothing-requires : goal.has_nothing-requires
has_nothing-requires c =
    let crew : c.self.inside.workers ≡ workers_of c.args.self.now = c.self.invariant.crew ∙ ap workers_of c.self.view_is in
    record { from_one = omega arith; within = omega arith }

pub returns : goal.returns
returns c = λ e at s.
    let crew : c.self.inside.workers ≡ workers_of c.args.self.now = c.self.invariant.crew ∙ ap workers_of c.self.view_is in
    let here : IsWorker c.args.self.now.machine.places c.args.worker = record { from_one = omega arith; within = omega arith } in
    idle_there c.args.self.now at c.args.worker s here (c.has_nothing.ensures e)
