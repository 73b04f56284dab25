use Rattle.std.proofs.Common.{◌≡◌, map, Some}
use Rattle.cilk_debug_console.specs.Asking.{ordinals_in}
use Rattle.cilk_debug_console.proofs.asking.ordinals_in.Given as goal

abbrev pub invariant-loop-ordinal : goal.invariant-loop-ordinal
invariant-loop-ordinal l = ordinals_in (map (λ t. t.now) l.yielded) ≡ Some l.numbers.items
