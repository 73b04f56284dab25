use Rattle.std.proofs.Common.{sym, arith}
use Rattle.std.proofs.lemmas.List.{length-take-le}
use Rattle.cilk_lex.proofs.Texts.{quote_within, seen_open, seen_fault, seen_text}
use Rattle.cilk_lex.proofs.literal.first_text.Goals as goal

pub returns-in_default : goal.returns-in_default
returns-in_default c = λ text e. seen_open text c.args.behind.now c.args.at e c.in_default.ensures

pub slice_bounds-fault_within-end : goal.slice_bounds-fault_within-end
slice_bounds-fault_within-end c =
    sym (length-take-le c.in-Some.end c.args.behind.now (omega (arith, quote_within c.args.behind.now c.in-Some.end c.in-Some.ensures)))

pub overflow_add-result : goal.overflow_add-result
overflow_add-result c = omega (arith, quote_within c.args.behind.now c.in-Some.end c.in-Some.ensures)

pub returns-in-Some-fault_within : goal.returns-in-Some-fault_within
returns-in-Some-fault_within c =
    λ text e. seen_fault text c.args.behind.now c.args.at e c.in-Some.end c.in-Some-fault_within.fault c.in-Some.ensures
    c.in-Some-fault_within.ensures

pub returns-in-None : goal.returns-in-None
returns-in-None c = λ text e. seen_text text c.args.behind.now c.args.at e c.in-Some.end c.in-Some.ensures c.in-None.ensures
