use Rattle.std.proofs.Common.{◌<◌, length, refl, sym, ap, ◌∙◌, arith}
use Rattle.std.proofs.Math.Seq.{take-length}
use Rattle.cilk_explore.specs.Walks.{Walk}
use Rattle.cilk_explore.proofs.Strides.{front-fewer}
use Rattle.cilk_explore.proofs.walker.Walker.back_to.Goals as goal

pub loop-self-init : goal.loop-self-init
loop-self-init c = record { high = c.requires; front = sym (take-length c.args.self.now.log); program = refl; workers = refl }

pub loop-self-preserved : goal.loop-self-preserved
loop-self-preserved c =
    let more = c.loop-self-test.true in
    let size = c.len.ensures in
    let long : c.args.count < length c.loop-self.self.log = omega (arith, more, size) in
    let log = ap (λ (walk : Walk). walk.log) c.in-Ok.ensures.back in
    let one = front-fewer c.args.self.now.log c.loop-self.self.log c.back.new.self.log c.args.count long c.loop-self.invariant.front log in
    record {
      high = one.high;
      front = one.front;
      program = ap (λ (walk : Walk). walk.program) c.in-Ok.ensures.back ∙ c.loop-self.invariant.program;
      workers = ap (λ (walk : Walk). walk.workers) c.in-Ok.ensures.back ∙ c.loop-self.invariant.workers;
    }
