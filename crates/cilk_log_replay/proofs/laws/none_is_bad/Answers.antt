use Rattle.cilk_log_replay.proofs.Whole.{no-bad}
use Rattle.cilk_log_replay.proofs.laws.none_is_bad.Goals as goal

pub returns : goal.returns
returns c t whole k why bad = no-bad t whole k why bad
