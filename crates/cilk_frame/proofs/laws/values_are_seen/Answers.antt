use Rattle.cilk_frame.proofs.Steps.{lent-seen}
use Rattle.cilk_frame.proofs.Values.{value-same, slots-within, cell-same, cell-there}
use Rattle.cilk_frame.proofs.laws.values_are_seen.Goals as goal

pub returns : goal.returns
returns c = record { seen = lent-seen; value = value-same; within = slots-within; cell = cell-same; there = cell-there }
