use Rattle.std.proofs.Common.{Some, None, refl}
use Rattle.std.proofs.Common.{sym}
use Rattle.cilk_frame.specs.model.Hands.{hand_of}
use Rattle.cilk_sched.proofs.Back.{hand-back, changes-back, pushes-back, pops-back, steals-back}
use Rattle.cilk_sched.proofs.laws.moves_come_back.Goals as goal

pub returns : goal.returns
returns c = record {
  gives = λ places w f worker empty. hand-back places w worker (Some f) None (sym empty);
  takes = λ places w worker. hand-back places w worker None (hand_of places w) refl;
  changes = λ places w f g back worker held e. changes-back places w worker f g back held e;
  pushes = pushes-back;
  pops = pops-back;
  steals = steals-back;
}
