use Rattle.std.proofs.lemmas.Slice.Eq.{slice_eq-Decides}
use Rattle.std.proofs.lemmas.Bool.Decides.{Decides-eqb}
use Rattle.cilk_machine.proofs.comparing.is_same_output.Goals as goal

pub returns : goal.returns
returns c = λ e. (slice_eq-Decides Decides-eqb c.args.bytes.now c.args.others.now c.eq.result c.eq.ensures).0 e
