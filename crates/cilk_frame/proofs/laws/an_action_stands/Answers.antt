use Rattle.cilk_frame.proofs.Steps.{goes_on-stands, assign-stands, alone-is, flag-stands}
use Rattle.cilk_frame.proofs.laws.an_action_stands.Goals as goal

pub returns : goal.returns
returns c = record { goes_on = goes_on-stands; assigns = assign-stands; alone = alone-is; flag = flag-stands }
