-- What later machines tell of earlier ones, and parts that are made of it.
use Rattle.std.proofs.Common.{◌++◌, ◌∙◌, ℕ, List, ap}
use Rattle.std.proofs.lemmas.List.{append_assoc}
use Rattle.cilk_machine_undo.specs.Growth.{Prints}
use Rattle.cilk_machine_undo.specs.MomentLaws.{MachinesTell, MachinesGoOn}
use Rattle.cilk_machine_undo.proofs.Cut.{own-cut, cuts-go-on}
use Rattle.cilk_machine_undo.proofs.Printed.{prints-none}

prints-then : (old now later : List ℕ) → Prints old now → Prints now later → Prints old later
prints-then old now later a b = record {
  more = a.more ++ b.more;
  is = b.is ∙ ap (λ xs. xs ++ b.more) a.is ∙ append_assoc old a.more b.more;
}

pub machines-tell : MachinesTell
machines-tell c m within = record { nodes = own-cut c m.nodes within; output = prints-none m.outside.output }

pub machines-go-on : MachinesGoOn
machines-go-on c n m now later less before grows = record {
  nodes = cuts-go-on c n m.nodes now.nodes later.nodes less before.nodes grows.nodes;
  output = prints-then m.outside.output now.outside.output later.outside.output before.output grows.output;
}
