use Rattle.std.proofs.Common.{◌≡◌, length}
use Rattle.cilk_tests_again.proofs.again.hands.frames_in_hands_enter_again.Given as goal

abbrev pub invariant-loop : goal.invariant-loop
invariant-loop g l = length l.hands ≡ 3
