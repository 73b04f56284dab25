-- Loaded programs may be handed from thread to thread.
use denote.Param.Send.{IsSend, IsSync, sendable}
use Rattle.std.proofs.Crossing.{crosses}
use Rattle.std.proofs.option.Option.TheSendSync as option
use Rattle.cilk_load.proofs.nodes_laws.Crosses.{node_send, node_sync}
use Rattle.cilk_load.proofs.nodes_laws.body.Body.TheSendSync as body
use Rattle.cilk_load.proofs.nodes_laws.var.Var.TheSendSync as var
use Rattle.cilk_load.proofs.syntax_laws.Crosses.{program_send, program_sync}
use Rattle.cilk_load.specs.contracts.loaded.Loaded as loaded
use Rattle.cilk_load.specs.contracts.tables.Tables as tables

pub tables_send : IsSend tables.the_row
tables_send = search (program_send, node_send, crosses, sendable, option.the_send, body.the_send, var.the_send) depth 40 fits 3000

pub tables_sync : IsSync tables.the_row
tables_sync = search (program_sync, node_sync, crosses, sendable, option.the_sync, body.the_sync, var.the_sync) depth 40 fits 3000

pub loaded_send : IsSend loaded.the_row
loaded_send = search (tables_send, tables_sync, crosses, sendable) depth 40 fits 3000
