use Rattle.cilk_lex.proofs.Fronts.{three, two, one, none}
use Rattle.cilk_lex.proofs.front.first_mark.Goals as goal

pub returns-in-Some : goal.returns-in-Some
returns-in-Some c = rw c.found_mark.ensures (three c.args.text.now c.args.at c.in-Some.mark c.in-Some.ensures)

pub returns-in-Some-mark_within : goal.returns-in-Some-mark_within
returns-in-Some-mark_within c =
    rw c.found_mark-in-Some-mark_within.ensures
    (two c.args.text.now c.args.at c.in-Some-mark_within.mark c.in_default.ensures c.in-Some-mark_within.ensures)

pub returns-in-Some-mark_within-2 : goal.returns-in-Some-mark_within-2
returns-in-Some-mark_within-2 c =
    rw c.found_mark-in-Some-mark_within-2.ensures
    (one c.args.text.now c.args.at c.in-Some-mark_within-2.mark c.in_default.ensures c.in_default-mark_within.ensures
    c.in-Some-mark_within-2.ensures)

pub returns-in-None : goal.returns-in-None
returns-in-None c = none c.args.text.now c.args.at c.in_default.ensures c.in_default-mark_within.ensures c.in-None.ensures
