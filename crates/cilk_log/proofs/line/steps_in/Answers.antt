use Rattle.std.proofs.lemmas.List.Sums.{prefix_len-le-length}
use Rattle.cilk_log.proofs.line.steps_in.Goals as goal

pub split_at-requires : goal.split_at-requires
split_at-requires c = rw c.digits_end.ensures (prefix_len-le-length _ c.args.line.now)
