use Rattle.cilk_laws.proofs.Printed.{spelled_by_canonical}
use Rattle.cilk_laws.proofs.printing.printed_again.Goals as goal

pub returns : goal.returns
returns c = spelled_by_canonical
