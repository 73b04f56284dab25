use Rattle.cilk_program_tapes.proofs.Said.{closes_by_trap}
use Rattle.cilk_program_tapes.proofs.closing.closing_by.Goals as goal

pub returns-in-Ok-clause-trap : goal.returns-in-Ok-clause-trap
returns-in-Ok-clause-trap c =
    closes_by_trap c.args.end.now c.trap_at.result c.args.output.now c.args.choices c.in-Ok.text.items c.trap_at.ensures c.in-Ok.ensures
