use Rattle.cilk_frame.proofs.Steps.{call-stands, awaits-same}
use Rattle.cilk_frame.proofs.Tops.{left-stands}
use Rattle.cilk_frame.proofs.laws.a_call_stands.Goals as goal

pub returns : goal.returns
returns c = record { enters = call-stands; leaves = left-stands; awaits = awaits-same }
