use Rattle.cilk_log_replay.specs.log.choices.Words.{end_of}
use Rattle.cilk_program_tapes.proofs.Replayed.{closes_by}
use Rattle.cilk_program_tapes.proofs.closing.closing_of.Goals as goal

pub returns-in-Ok-clause-closes : goal.returns-in-Ok-clause-closes
returns-in-Ok-clause-closes c =
    closes_by c.closing_by.result c.args.machine.now c.output.result.now (end_of c.in-Ok.end) c.choices.result c.output.ensures c.in-Ok.ensures
    c.choices.ensures.value c.closing_by.ensures.status c.closing_by.ensures.text
