use Rattle.std.proofs.Common.{◌+◌}
use Rattle.cilk_machine.proofs.machine.Machine.has_idle.Goals as goal

pub returns-then-is_idle : goal.returns-then-is_idle
returns-then-is_idle c = λ e at s. record { worker = c.loop-k.k + 1; is = c.is_idle.ensures c.if-is_idle.true at s }
