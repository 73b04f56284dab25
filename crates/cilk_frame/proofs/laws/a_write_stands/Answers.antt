use Rattle.cilk_frame.proofs.Puts.{put-stands, put-globals, put-sizes}
use Rattle.cilk_frame.proofs.Steps.{rest-stands}
use Rattle.cilk_frame.proofs.laws.a_write_stands.Goals as goal

pub returns : goal.returns
returns c = record { written = put-stands; globals = put-globals; sizes = put-sizes; others = rest-stands }
