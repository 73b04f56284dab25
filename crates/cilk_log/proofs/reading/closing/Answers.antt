use Rattle.cilk_log.proofs.GoingOn.{counted_more}
use Rattle.cilk_log.proofs.reading.closing.Goals as goal

pub returns-then-not-is_empty : goal.returns-then-not-is_empty
returns-then-not-is_empty c = λ choices same.
    counted_more c.args.line.now c.in-Some.told c.args.count c.args.number c.args.behind.now choices c.in-Some.ensures
    c.if-told-count.false c.if-not-is_empty.ensures same
