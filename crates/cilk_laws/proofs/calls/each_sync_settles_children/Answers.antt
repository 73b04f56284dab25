use Rattle.cilk_laws.proofs.CallRuns.{each_sync_settles_children}
use Rattle.cilk_laws.proofs.calls.each_sync_settles_children.Goals as goal

pub returns : goal.returns
returns c = each_sync_settles_children
