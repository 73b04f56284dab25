use Rattle.cilk_load_nodes.proofs.Heads.{bodies-have, tables-have}
use Rattle.cilk_load_nodes.proofs.laws.bodies_have_tables.Goals as goal

pub returns : goal.returns
returns c = record { tables = bodies-have; bodies = tables-have }
