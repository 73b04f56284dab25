use Rattle.std.proofs.Common.{ap, Ok, ◌∙◌, arith}
use Rattle.cilk_explore.specs.Walks.{Walk}
use Rattle.cilk_explore.proofs.Strides.{front-more, front-all}
use Rattle.cilk_explore.proofs.walker.Walker.go_on.Goals as goal

pub loop-i-preserved : goal.loop-i-preserved
loop-i-preserved c =
    let made = c.in-Ok-true.ensures.made (ap Ok c.in-Ok-true.field-0-test) in
    record {
      front = front-more c.args.tail.now c.loop-i.i c.choice_at.result c.args.self.now.log c.loop-i.self.log c.make.new.self.log (omega arith)
          c.choice_at.ensures
          c.loop-i.invariant.front (ap (λ (walk : Walk). walk.log) made);
      program = ap (λ (walk : Walk). walk.program) made ∙ c.loop-i.invariant.program;
      workers = ap (λ (walk : Walk). walk.workers) made ∙ c.loop-i.invariant.workers;
    }

pub returns-clause-there : goal.returns-clause-there
returns-clause-there c = front-all c.args.tail.now c.loop-i.i c.args.self.now.log c.loop-i.self.log (omega arith) (omega arith) c.loop-i.invariant.front

pub returns-clause-program : goal.returns-clause-program
returns-clause-program c = c.loop-i.invariant.program

pub returns-clause-workers : goal.returns-clause-workers
returns-clause-workers c = c.loop-i.invariant.workers
