-- What holds of runs where calls and spawns suit holds of those of well-formed programs.
use Rattle.cilk_laws_model.specs.labelled.Bodies.{label}
use Rattle.cilk_laws.proofs.Alone as alone
use Rattle.cilk_laws.specs.Moments.{passes}
use Rattle.cilk_laws.proofs.Starts as starts
use Rattle.cilk_laws.proofs.Settled.{children_are_settled}
use Rattle.cilk_laws.specs.CallLaws.{EachInletStarts, InletsRunAlone, OnlyProceduresSync, EachSyncSettlesChildren}
use Rattle.cilk_laws.proofs.CallBodies.{calls_suit}

pub each_inlet_starts : EachInletStarts
each_inlet_starts p right = starts.each_inlet_starts (label p) (calls_suit p right)

pub inlets_run_alone : InletsRunAlone
inlets_run_alone p right = alone.inlets_run_alone (label p) (calls_suit p right)

pub only_procedures_sync : OnlyProceduresSync
only_procedures_sync p right = starts.only_procedures_sync (label p) (calls_suit p right)

pub each_sync_settles_children : EachSyncSettlesChildren
each_sync_settles_children p right n choices choice at next leads q acts k made =
    children_are_settled (label p) n choices choice at next leads q (passes acts (only_procedures_sync p right n choices choice at leads.before q acts)) k made
