use Rattle.cilk_machine_agree.proofs.Actions.{going-agrees, writes-agree, calls-agree, leaves-agree, answers-agree, prints-agree, locks-agree}
use Rattle.cilk_machine_agree.proofs.Actions.{traps-agree, aborts-agree}
use Rattle.cilk_machine_agree.proofs.Inlets.{deliveries-agree, inlets-agree, starts-agree}
use Rattle.cilk_machine_agree.proofs.laws.actions_keep_agreement.Goals as goal

pub returns : goal.returns
returns c = record {
  going = going-agrees;
  writes = writes-agree;
  calls = calls-agree;
  leaves = leaves-agree;
  answers = answers-agree;
  deliveries = deliveries-agree;
  inlets = inlets-agree;
  prints = prints-agree;
  locks = locks-agree;
  traps = traps-agree;
  starts = starts-agree;
  aborts = aborts-agree;
}
