use Rattle.std.proofs.Common.{sym, ap, ◌∙◌, option_copied}
use Rattle.cilk_machine_undo.specs.Words.{machine_in}
use Rattle.cilk_machine_undo.proofs.Noted.{noted-by, ok-noted, in-hand}
use Rattle.cilk_machine_undo.proofs.noting.note.Goals as goal

pub returns-in-Park : goal.returns-in-Park
returns-in-Park c =
    let same = in-hand c.args.parts.now.hands c.args.worker c.in-Some.frame.now (sym c.hand.ensures ∙ ap option_copied c.in-Some.is) in
    noted-by (machine_in c.args.parts.now) c.args.worker c.note_park.result (c.in-Park.is) same
    (c.note_park.ensures (machine_in c.args.parts.now))

pub returns-in-Take : goal.returns-in-Take
returns-in-Take c =
    let same = in-hand c.args.parts.now.hands c.args.worker c.in-Some.frame.now (sym c.hand.ensures ∙ ap option_copied c.in-Some.is) in
    ok-noted c.note_take.result c.note_take.ensures
    (λ u h. noted-by (machine_in c.args.parts.now) c.args.worker u (c.in-Take.is) same (h c.in-Take.child c.in-Take.n c.in-Take.value))

pub returns-in-Go : goal.returns-in-Go
returns-in-Go c =
    let same = in-hand c.args.parts.now.hands c.args.worker c.in-Some.frame.now (sym c.hand.ensures ∙ ap option_copied c.in-Some.is) in
    noted-by (machine_in c.args.parts.now) c.args.worker c.note_go.result (c.in-Go.is) same
    (c.note_go.ensures (machine_in c.args.parts.now) c.in-Go.n c.in-Go.to)

pub returns-in-Write : goal.returns-in-Write
returns-in-Write c =
    let same = in-hand c.args.parts.now.hands c.args.worker c.in-Some.frame.now (sym c.hand.ensures ∙ ap option_copied c.in-Some.is) in
    noted-by (machine_in c.args.parts.now) c.args.worker c.note_write.result (c.in-Write.is) same
    (c.note_write.ensures c.in-Write.n c.in-Write.to c.in-Write.value)

pub returns-in-Leave : goal.returns-in-Leave
returns-in-Leave c =
    let same = in-hand c.args.parts.now.hands c.args.worker c.in-Some.frame.now (sym c.hand.ensures ∙ ap option_copied c.in-Some.is) in
    ok-noted c.note_leave.result c.note_leave.ensures
    (λ u h. noted-by (machine_in c.args.parts.now) c.args.worker u (c.in-Leave.is) same (h c.in-Some.frame.now c.in-Leave.n))

pub returns-in-Answer : goal.returns-in-Answer
returns-in-Answer c =
    let same = in-hand c.args.parts.now.hands c.args.worker c.in-Some.frame.now (sym c.hand.ensures ∙ ap option_copied c.in-Some.is) in
    ok-noted c.note_answer.result c.note_answer.ensures
    (λ u h. noted-by (machine_in c.args.parts.now) c.args.worker u (c.in-Answer.is) same (h c.in-Answer.n c.in-Answer.value))

pub returns-in-Enter : goal.returns-in-Enter
returns-in-Enter c =
    let same = in-hand c.args.parts.now.hands c.args.worker c.in-Some.frame.now (sym c.hand.ensures ∙ ap option_copied c.in-Some.is) in
    ok-noted c.note_enter.result c.note_enter.ensures
    (λ u h. noted-by (machine_in c.args.parts.now) c.args.worker u (c.in-Enter.is) same (h c.in-Enter.child c.in-Enter.n c.in-Enter.inlet c.in-Enter.arguments))

pub returns-in-Call : goal.returns-in-Call
returns-in-Call c =
    let same = in-hand c.args.parts.now.hands c.args.worker c.in-Some.frame.now (sym c.hand.ensures ∙ ap option_copied c.in-Some.is) in
    noted-by (machine_in c.args.parts.now) c.args.worker c.note_call.result (c.in-Call.is) same
    (c.note_call.ensures (machine_in c.args.parts.now) c.in-Call.n c.in-Call.callee c.in-Call.to c.in-Call.awaits c.in-Call.arguments)

pub returns-in-Return : goal.returns-in-Return
returns-in-Return c =
    let same = in-hand c.args.parts.now.hands c.args.worker c.in-Some.frame.now (sym c.hand.ensures ∙ ap option_copied c.in-Some.is) in
    ok-noted c.note_return.result c.note_return.ensures
    (λ u h. noted-by (machine_in c.args.parts.now) c.args.worker u (c.in-Return.is) same (h c.in-Return.n c.in-Return.value))

pub returns-in-Spawn : goal.returns-in-Spawn
returns-in-Spawn c =
    let same = in-hand c.args.parts.now.hands c.args.worker c.in-Some.frame.now (sym c.hand.ensures ∙ ap option_copied c.in-Some.is) in
    noted-by (machine_in c.args.parts.now) c.args.worker c.note_spawn.result (c.in-Spawn.is) same
    (c.note_spawn.ensures (machine_in c.args.parts.now) c.in-Spawn.n c.in-Spawn.callee c.in-Spawn.to c.in-Spawn.receiver c.in-Spawn.arguments)

pub returns-in-Print : goal.returns-in-Print
returns-in-Print c =
    let same = in-hand c.args.parts.now.hands c.args.worker c.in-Some.frame.now (sym c.hand.ensures ∙ ap option_copied c.in-Some.is) in
    noted-by (machine_in c.args.parts.now) c.args.worker c.note_print.result (c.in-Print.is) same
    (c.note_print.ensures c.in-Print.n c.in-Print.to c.in-Print.bytes)

pub returns-in-TurnLock : goal.returns-in-TurnLock
returns-in-TurnLock c =
    let same = in-hand c.args.parts.now.hands c.args.worker c.in-Some.frame.now (sym c.hand.ensures ∙ ap option_copied c.in-Some.is) in
    noted-by (machine_in c.args.parts.now) c.args.worker c.note_turn.result (c.in-TurnLock.is) same
    (c.note_turn.ensures c.in-TurnLock.n c.in-TurnLock.to c.in-TurnLock.now)

pub returns-in-Abort : goal.returns-in-Abort
returns-in-Abort c =
    let same = in-hand c.args.parts.now.hands c.args.worker c.in-Some.frame.now (sym c.hand.ensures ∙ ap option_copied c.in-Some.is) in
    ok-noted c.note_abort.result c.note_abort.ensures
    (λ u h. noted-by (machine_in c.args.parts.now) c.args.worker u (c.in-Abort.is) same (h c.in-Abort.n c.in-Abort.to))
