use Rattle.std.proofs.Common.{◌≡◌, drop}
use Rattle.cilk_eval.specs.Known.{known_value}
use Rattle.cilk_eval.proofs.known.known_value.Given as goal

abbrev pub invariant-loop-known : goal.invariant-loop-known
invariant-loop-known l = known_value (drop l.known-index l.values) l.slot ≡ known_value l.values l.slot
