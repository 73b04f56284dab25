use Rattle.std.proofs.Common.{ap}
use Rattle.cilk_commands.specs.Status.{is_answer}
use Rattle.cilk_commands.specs.Printing.{IsPrinted}
use Rattle.cilk_commands.proofs.Statuses.{done_front, done_gains, done_only}
use Rattle.cilk_commands.proofs.print.print_text.Goals as goal

pub returns-clause-done : goal.returns-clause-done
returns-clause-done g c =
    λ done. done_gains (g.R.Read.remaining c.args.reader.now) IsPrinted _ _ c.answer_text.result (c.answer_text.ensures.done (ap is_answer done))

pub returns-clause-only : goal.returns-clause-only
returns-clause-only g c =
    λ answered. done_only (g.R.Read.remaining c.args.reader.now) IsPrinted _ _ c.answer_text.result (c.answer_text.ensures.done answered)

pub returns-clause-begun : goal.returns-clause-begun
returns-clause-begun g c = λ failed. done_front (g.R.Read.remaining c.args.reader.now) IsPrinted _ _ (c.answer_text.ensures.begun failed)
