use Rattle.cilk_machine_agree.proofs.Acts.{local-agrees}
use Rattle.cilk_machine_agree.proofs.Waits.{waiting-agrees}
use Rattle.cilk_machine_agree.proofs.Births.{spawn-agrees}
use Rattle.cilk_machine_agree.proofs.Marks.{marks-agree}
use Rattle.cilk_machine_agree.proofs.Returns.{returns-agree, ends-agree}
use Rattle.cilk_machine_agree.proofs.Fates.{fates-agree}
use Rattle.cilk_machine_agree.proofs.laws.steps_keep_agreement.Goals as goal

pub returns : goal.returns
returns c =
    record {
      by_itself = local-agrees;
      waiting = waiting-agrees;
      spawns = spawn-agrees;
      marks = marks-agree;
      returns = returns-agree;
      ends =
          ends-agree;
      fates = fates-agree;
    }
