use Rattle.std.specs.Prelude.{string_bytes}
use Rattle.cilk_run.specs.choices.Words.{end_of}
use Rattle.cilk_run.proofs.Ends.{words-ok}
use Rattle.cilk_run.proofs.outcome.words_at.Goals as goal

pub returns-in-Ok : goal.returns-in-Ok
returns-in-Ok c = words-ok string_bytes c.args.machine.now (end_of c.in-Ok.end) c.words_of.result c.words_of.ensures c.in-Ok.ensures
