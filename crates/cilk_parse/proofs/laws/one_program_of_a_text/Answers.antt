use Rattle.cilk_parse.proofs.FaultPlaces.{one_program}
use Rattle.cilk_parse.proofs.laws.one_program_of_a_text.Goals as goal

pub returns : goal.returns
returns c = one_program
