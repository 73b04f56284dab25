use Rattle.std.proofs.Common.{ap, ◌∙◌}
use Rattle.cilk_check_scopes.specs.Format.{numbers_in}
use Rattle.cilk_check.proofs.Formats.{counted_end, counted_other}
use Rattle.cilk_check.proofs.format.numbers_in.Goals as goal

pub returns-else-byte-eq37 : goal.returns-else-byte-eq37
returns-else-byte-eq37 c =
    counted_other c.loop-byte.numbers c.loop-byte.is_open _ c.loop-byte.byte-index c.loop-byte-test.true c.if-not-is_open.false
    c.if-byte-eq100.false c.if-byte-eq37.false c.loop-byte.invariant.1
    ∙ ap numbers_in c.as_bytes-byte-items.ensures.value

pub returns-then-is_open : goal.returns-then-is_open
returns-then-is_open c =
    let e = counted_end c.loop-byte.numbers c.loop-byte.is_open _ c.loop-byte.byte-index c.loop-byte-test.false c.loop-byte.invariant.1 in
    (rw c.if-is_open.true at e) ∙ ap numbers_in c.as_bytes-byte-items.ensures.value

pub returns-else-is_open : goal.returns-else-is_open
returns-else-is_open c =
    let e = counted_end c.loop-byte.numbers c.loop-byte.is_open _ c.loop-byte.byte-index c.loop-byte-test.false c.loop-byte.invariant.1 in
    (rw c.if-is_open.false at e) ∙ ap numbers_in c.as_bytes-byte-items.ensures.value
