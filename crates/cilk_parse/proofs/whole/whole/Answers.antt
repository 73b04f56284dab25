use Rattle.std.proofs.Common.{arith}
use Rattle.std.proofs.lemmas.Result.{err_from_is_err_and}
use Rattle.cilk_parse.proofs.Programs.{headers_fail, items_fail, all_read, more_left}
use Rattle.cilk_parse.proofs.whole.whole.Goals as goal

pub returns-in_err-headers : goal.returns-in_err-headers
returns-in_err-headers c =
    let p = err_from_is_err_and c.from_residual.result c.from_residual.ensures.1 in
    rw (p.1, p.2) (headers_fail _ _ c.in_err-headers.ensures)

pub returns-in_err-items : goal.returns-in_err-items
returns-in_err-items c =
    let p = err_from_is_err_and c.from_residual-in_err-items.result c.from_residual-in_err-items.ensures.1 in
    rw (p.1, p.2) (items_fail _ _ _ _ c.in_ok-headers.ensures c.in_err-items.ensures)

pub returns-then-left-gt0 : goal.returns-then-left-gt0
returns-then-left-gt0 c =
    rw c.unexpected.ensures
    (more_left _ _ _ _ _ c.in_ok-headers.ensures c.in_ok-items.ensures (omega (arith, c.if-left-gt0.true, c.left.ensures)))

pub returns : goal.returns
returns c = all_read _ _ _ _ _ c.in_ok-headers.ensures c.in_ok-items.ensures (omega (arith, c.if-left-gt0.false, c.left.ensures))
