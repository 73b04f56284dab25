use denote.Param.Send.{sendable}
use Rattle.std.proofs.Common.{◌≡◌, ◌≢◌, IfErr, Result, Ok, Err, sym, ◌∙◌}
use Rattle.std.proofs.Crossing.{crosses}
use Rattle.std.proofs.option.Option.TheSendSync as option
use Rattle.cilk_run.proofs.machine_laws.nodes_laws.code.Code.TheLaws.TheKnot as code
use Rattle.cilk_run.proofs.machine_laws.nodes_laws.syntax_laws.operator.BinOp.TheSendSync as bin_op
use Rattle.cilk_run.proofs.machine_laws.nodes_laws.syntax_laws.un_op.UnOp.TheSendSync as un_op
use Rattle.cilk_run.specs.declared.run_result.RunFault.{RunFault}
use Rattle.cilk_run.specs.declared.run_result.RunFault.TheVariants.{Workers, Memory}
use Rattle.cilk_run.proofs.locked_laws.Crosses.{locked_send}
use Rattle.cilk_run.proofs.crew.run_as.Goals as goal

other_than_workers : {A : Type 0} (r : Result A RunFault) → IfErr r (λ e. e ≡ Memory) → IfErr r (λ e. e ≢ Workers)
other_than_workers (Ok a) is = tt
other_than_workers (Err e) is = λ bad. let no : Memory ≡ Workers = sym is ∙ bad in cc

pub start_all-all_started-requires-sync-T : goal.start_all-all_started-requires-sync-T
start_all-all_started-requires-sync-T g c κs =
    search (
      locked_send,
      code.crosses,
      crosses,
      sendable,
      option.the_sync,
      bin_op.the_sync,
      bin_op.the_field_sync,
      un_op.the_sync,
      un_op.the_field_sync,
    ) depth 60 fits 5000

pub returns-clause-err : goal.returns-clause-err
returns-clause-err g c = other_than_workers c.finish-2.result c.finish-2.ensures.err
