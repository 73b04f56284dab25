use Rattle.cilk_laws.proofs.Starts.{only_procedures_sync}
use Rattle.cilk_laws.proofs.children.only_procedures_sync.Goals as goal

pub returns : goal.returns
returns c = only_procedures_sync
