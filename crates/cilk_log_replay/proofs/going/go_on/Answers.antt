use Rattle.std.proofs.Common.{◌∙◌, arith}
use Rattle.cilk_log_replay.proofs.going.go_on.Goals as goal

pub loop-made-preserved : goal.loop-made-preserved
loop-made-preserved c =
    let was = c.loop-made.invariant in
    let here = was.0 in
    let low = was.1.0 in
    let made = c.in-Ok.ensures.made in
    let one = c.in-Ok.ensures.kept in (
      omega (arith, made),
      (
        omega (arith, made, here, low),
        (
          (λ t same g. c.in-Ok.ensures.goes t same (was.1.1.0 t same g)),
          (
            (λ e. (
                let kept = was.1.1.1.0 e in
                let more = one.more kept.0 in
                let sum = kept.1 in
                (one.keeps ∙ kept.0, omega (arith, more, sum, made, here))
                )),
            (λ e. absurd (omega (arith, e, made, here, low))),
          ),
        ),
      ),
    )
