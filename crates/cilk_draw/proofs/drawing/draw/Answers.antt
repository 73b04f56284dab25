use Rattle.std.proofs.lemmas.Result.{IfErr-weaker}
use Rattle.cilk_log_replay.specs.Tape.{tape_of}
use Rattle.cilk_log_replay.proofs.Naming.{ok_always}
use Rattle.cilk_draw.proofs.OwnFaults.{own_fault}
use Rattle.cilk_draw.proofs.drawing.draw.Goals as goal

pub returns-in-Ok-clause-own : goal.returns-in-Ok-clause-own
returns-in-Ok-clause-own c = ok_always c.draw_choices.result c.in-Ok.ensures.own

pub returns-in-Ok-clause-whole : goal.returns-in-Ok-clause-whole
returns-in-Ok-clause-whole c = ok_always c.draw_choices.result c.in-Ok.ensures.whole

pub returns-in-Ok-clause-told : goal.returns-in-Ok-clause-told
returns-in-Ok-clause-told c =
    let log = c.args.log.now in
    IfErr-weaker c.draw_choices.result _ _
    (own_fault log.program (tape_of c.args.program.now log.workers log.choices) c.in-Ok.ensures.own c.in-Ok.ensures.whole) c.draw_choices.ensures
