use Rattle.cilk_laws.proofs.Printed.{same_text}
use Rattle.cilk_laws.proofs.printing.printed_once_more.Goals as goal

pub returns : goal.returns
returns c = same_text
