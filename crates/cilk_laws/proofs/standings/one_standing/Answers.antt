use Rattle.cilk_laws.proofs.OneStanding.{one-standing}
use Rattle.cilk_laws.proofs.standings.one_standing.Goals as goal

pub returns : goal.returns
returns c = one-standing
