use Rattle.cilk_laws.proofs.CallRuns.{only_procedures_sync}
use Rattle.cilk_laws.proofs.calls.only_procedures_sync.Goals as goal

pub returns : goal.returns
returns c = only_procedures_sync
