-- The same of the action of a node.
use Rattle.std.specs.Prelude.{Bool, true, false}
use Rattle.cilk_log_replay.specs.machine.nodes.declared.action.Action.{Action}
use Rattle.cilk_log_replay.specs.machine.nodes.declared.action.Action.TheVariants.{Call, Spawn, Sync, Return, ReturnNothing, Close}
use Rattle.cilk_log_replay.specs.machine.nodes.declared.taker.Taker.{Taker}
use Rattle.cilk_log_replay.specs.machine.nodes.declared.taker.Taker.TheVariants.{Through}

abbrev pub node_calls : Action → Bool
node_calls (Call place callee arguments) = true
node_calls other = false

abbrev pub node_leaves : Action → Bool
node_leaves (Return value) = true
node_leaves ReturnNothing = true
node_leaves Close = true
node_leaves other = false

abbrev pub node_waits : Action → Bool
node_waits Sync = true
node_waits other = false

abbrev pub takes_through : Taker → Bool
takes_through (Through inlet others) = true
takes_through other = false

abbrev pub node_goes_through : Action → Bool
node_goes_through (Spawn taker callee arguments) = takes_through taker
node_goes_through other = false
