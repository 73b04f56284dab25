use Rattle.cilk_log_replay.proofs.Again.{first_by}
use Rattle.cilk_log_replay.proofs.replaying.refused.Goals as goal

pub returns-in_default : goal.returns-in_default
returns-in_default c t bad = first_by t c.args.made c.args.refusal c.in_default.not-Memory bad
