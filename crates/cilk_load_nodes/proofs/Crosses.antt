-- Nodes may be handed from thread to thread, and looked at by several.
use denote.Param.Send.{IsSend, IsSync, sendable}
use Rattle.std.proofs.Crossing.{crosses}
use Rattle.std.proofs.option.Option.TheSendSync as option
use Rattle.cilk_load_nodes.proofs.code.Code.TheLaws.TheKnot as code
use Rattle.cilk_model.proofs.syntax_laws.lock_action.LockAction.TheSendSync as lock_action
use Rattle.cilk_model.proofs.syntax_laws.operator.BinOp.TheSendSync as bin_op
use Rattle.cilk_model.proofs.syntax_laws.un_op.UnOp.TheSendSync as un_op
use Rattle.cilk_model.proofs.syntax_laws.word.Word.TheSendSync as word
use Rattle.cilk_load_nodes.specs.contracts.node.Node as node
use Rattle.cilk_load_nodes.proofs.text.Text.TheSendSync as text

pub node_send : IsSend node.the_row
node_send =
    search (
      code.crosses,
      crosses,
      sendable,
      option.the_send,
      word.the_send,
      text.the_send,
      lock_action.the_send,
      lock_action.the_field_send,
      bin_op.the_send,
      bin_op.the_field_send,
      un_op.the_send,
      un_op.the_field_send,
    ) depth 60 fits 5000

pub node_sync : IsSync node.the_row
node_sync =
    search (
      code.crosses,
      crosses,
      sendable,
      option.the_sync,
      word.the_sync,
      text.the_sync,
      lock_action.the_sync,
      lock_action.the_field_sync,
      bin_op.the_sync,
      bin_op.the_field_sync,
      un_op.the_sync,
      un_op.the_field_sync,
    ) depth 60 fits 5000
