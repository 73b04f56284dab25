use Rattle.std.proofs.lemmas.Slice.Eq.{slice_eq-Decides}
use Rattle.std.proofs.lemmas.Bool.Decides.{Decides-int_eq}
use Rattle.cilk_machine.proofs.comparing.are_same_cells.Goals as goal

pub returns : goal.returns
returns c = λ e. (slice_eq-Decides Decides-int_eq c.args.cells.now c.args.others.now c.eq.result c.eq.ensures).0 e
