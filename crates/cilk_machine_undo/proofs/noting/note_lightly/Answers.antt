use Rattle.std.proofs.Common.{sym, ap, ◌∙◌, option_copied}
use Rattle.cilk_machine_plan.specs.Words.{plan_of}
use Rattle.cilk_machine_undo.specs.Words.{machine_in}
use Rattle.cilk_machine_undo.proofs.Noted.{noted-by, ok-noted, in-hand}
use Rattle.cilk_machine_undo.proofs.noting.note_lightly.Goals as goal

pub returns-in-Take : goal.returns-in-Take
returns-in-Take c =
    let same = in-hand c.args.parts.now.hands c.args.worker c.in-Some.frame.now (sym c.hand.ensures ∙ ap option_copied c.in-Some.is) in
    ok-noted c.note_take.result c.note_take.ensures
    (λ u h. noted-by (machine_in c.args.parts.now) c.args.worker u (ap plan_of c.in-Take.is) same (h c.in-Take.child c.in-Take.n c.in-Take.value))

pub returns-in-Go : goal.returns-in-Go
returns-in-Go c =
    let same = in-hand c.args.parts.now.hands c.args.worker c.in-Some.frame.now (sym c.hand.ensures ∙ ap option_copied c.in-Some.is) in
    noted-by (machine_in c.args.parts.now) c.args.worker c.note_go.result (ap plan_of c.in-Go.is) same
    (c.note_go.ensures (machine_in c.args.parts.now) c.in-Go.n c.in-Go.to)

pub returns-in-Write : goal.returns-in-Write
returns-in-Write c =
    let same = in-hand c.args.parts.now.hands c.args.worker c.in-Some.frame.now (sym c.hand.ensures ∙ ap option_copied c.in-Some.is) in
    noted-by (machine_in c.args.parts.now) c.args.worker c.note_write.result (ap plan_of c.in-Write.is) same
    (c.note_write.ensures c.in-Write.n c.in-Write.to c.in-Write.value)

pub returns-in-Leave : goal.returns-in-Leave
returns-in-Leave c =
    let same = in-hand c.args.parts.now.hands c.args.worker c.in-Some.frame.now (sym c.hand.ensures ∙ ap option_copied c.in-Some.is) in
    ok-noted c.note_leave.result c.note_leave.ensures
    (λ u h. noted-by (machine_in c.args.parts.now) c.args.worker u (ap plan_of c.in-Leave.is) same (h c.in-Some.frame.now c.in-Leave.n))

pub returns-in-Answer : goal.returns-in-Answer
returns-in-Answer c =
    let same = in-hand c.args.parts.now.hands c.args.worker c.in-Some.frame.now (sym c.hand.ensures ∙ ap option_copied c.in-Some.is) in
    ok-noted c.note_answer.result c.note_answer.ensures
    (λ u h. noted-by (machine_in c.args.parts.now) c.args.worker u (ap plan_of c.in-Answer.is) same (h c.in-Answer.n c.in-Answer.value))
