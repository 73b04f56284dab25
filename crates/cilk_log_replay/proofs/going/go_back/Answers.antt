use Rattle.std.proofs.Common.{◌≡◌, ◌∙◌, Ok, suc, length, ap, arith}
use Rattle.cilk_log_replay.proofs.Onward.{goes-back}
use Rattle.cilk_log_replay.proofs.going.go_back.Goals as goal

pub loop-machine-preserved : goal.loop-machine-preserved
loop-machine-preserved c =
    let was = c.loop-machine.invariant in
    let back = c.in-Ok-true.ensures.back (ap Ok c.in-Ok-true.field-0-test) in
    let fewer = back.choices in
    let more = c.loop-machine-test.true in
    let here = c.choices.ensures.value in
    let high = was.1.0 in
    let sum = was.1.1.1.0 in
    let left : suc (length c.undo.new.self.past) ≡ length c.loop-machine.machine.past = ap length back.past in (
      omega (arith, fewer, more, here),
      (
        omega (arith, fewer, high),
        (
          (λ t g. goes-back t c.loop-machine.machine c.undo.new.self (was.1.1.0 t g) back),
          (
            omega (arith, fewer, sum, left),
            (λ e. absurd (omega (arith, e, fewer, high))),
          ),
        ),
      ),
    )

pub returns-in-Err-clause-same : goal.returns-in-Err-clause-same
returns-in-Err-clause-same c = λ near.
    let was = c.loop-machine.invariant in
    let more = c.loop-machine-test.true in
    let here = c.choices.ensures.value in
    let high = was.1.0 in
    c.in-Err.ensures.same ∙ was.1.1.1.1 (omega (arith, near, more, here, high))
