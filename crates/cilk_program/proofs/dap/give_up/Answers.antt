use Rattle.std.proofs.Common.{◌∙◌, ap, subst, sym}
use Rattle.cilk_program_runs.specs.commands.Status.{is_answer}
use Rattle.cilk_program.specs.Serving.{IsOfServing}
use Rattle.cilk_program_runs.specs.Telling.{status_of}
use Rattle.cilk_program.proofs.Served.{not_refused, of_serving}
use Rattle.cilk_program_runs.proofs.Told.{no_answer, no_usage_told}
use Rattle.cilk_program.proofs.dap.give_up.Goals as goal

pub returns-clause-failed : goal.returns-clause-failed
returns-clause-failed g c = ap is_answer c.report.ensures.status ∙ no_answer c.exchange_ended.result

pub returns-clause-usage : goal.returns-clause-usage
returns-clause-usage g c = no_usage_told c.report.result c.exchange_ended.result c.report.ensures.status

pub returns-clause-refused : goal.returns-clause-refused
returns-clause-refused g c = λ bad. not_refused c.args.fault (sym (ap status_of c.exchange_ended.ensures) ∙ sym c.report.ensures.status ∙ bad)

pub returns-clause-told : goal.returns-clause-told
returns-clause-told g c = record {
  why = c.exchange_ended.result;
  status_is = c.report.ensures.status;
  of_serving = subst IsOfServing (sym c.exchange_ended.ensures) (of_serving c.args.fault);
  told = c.report.ensures.told;
}
