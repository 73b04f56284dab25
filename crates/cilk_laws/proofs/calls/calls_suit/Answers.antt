use Rattle.cilk_laws.proofs.CallBodies.{calls_suit}
use Rattle.cilk_laws.proofs.calls.calls_suit.Goals as goal

pub returns : goal.returns
returns c = calls_suit
