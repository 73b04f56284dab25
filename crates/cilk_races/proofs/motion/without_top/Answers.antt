use Rattle.std.proofs.Common.{sym, arith}
use Rattle.cilk_races.proofs.Lefts.{left-few, left-more}
use Rattle.cilk_races.proofs.motion.without_top.Goals as goal

pub returns-then-above-lt2-clause-inlet : goal.returns-then-above-lt2-clause-inlet
returns-then-above-lt2-clause-inlet c = sym (left-few c.args.above c.args.taking (omega arith))

pub returns-else-above-lt2-clause-inlet : goal.returns-else-above-lt2-clause-inlet
returns-else-above-lt2-clause-inlet c = sym (left-more c.args.above c.args.taking (omega arith))
