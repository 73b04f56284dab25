use Rattle.cilk_log.proofs.Numbers.{too_much}
use Rattle.cilk_log.proofs.number.value_of.Goals as goal

pub returns-in_err-value : goal.returns-in_err-value
returns-in_err-value c =
    rw c.from_residual.ensures
    (too_much c.args.digits.now c.loop-digit.digit-index c.loop-digit.value c.args.most c.loop-digit.invariant.value c.loop-digit-test.true
    c.in_err-value.ensures.none c.ranges.most.fits)
