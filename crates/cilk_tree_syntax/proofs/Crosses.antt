-- Programs may be handed from thread to thread, and looked at by several. The ring of types that a block is of asks for a law of each type in
-- its fields, in the order of the fields; one search finds each.
use denote.Param.Send.{IsSend, IsSync, sendable}
use Rattle.std.proofs.Crossing.{crosses, Vec-send, Vec-sync}
use Rattle.std.proofs.option.Option.TheSendSync as option
use Rattle.cilk_tree_syntax.specs.contracts.block.Block as block
use Rattle.cilk_tree_syntax.specs.contracts.program.Program as program
use Rattle.cilk_tree_syntax.proofs.block.Block.TheLaws.TheKnot as knot
use Rattle.cilk_tree_syntax.proofs.expr.Expr.TheLaws.TheKnot as expr
use Rattle.cilk_tree_syntax.proofs.global.Global.TheSendSync as global
use Rattle.cilk_tree_syntax.proofs.label.Label.TheSendSync as label
use Rattle.cilk_tree_syntax.proofs.literal.Literal.TheSendSync as literal
use Rattle.cilk_tree_syntax.proofs.lock_action.LockAction.TheSendSync as lock_action
use Rattle.cilk_tree_syntax.proofs.operator.BinOp.TheSendSync as bin_op
use Rattle.cilk_tree_syntax.proofs.parameters.Parameters.TheSendSync as parameters
use Rattle.cilk_tree_syntax.proofs.prototype.Prototype.TheSendSync as prototype
use Rattle.cilk_tree_syntax.proofs.return_type.ReturnType.TheSendSync as return_type
use Rattle.cilk_tree_syntax.proofs.un_op.UnOp.TheSendSync as un_op
use Rattle.cilk_tree_syntax.proofs.word.Word.TheSendSync as word

ruleset leaves_send = (
  expr.crosses,
  crosses,
  sendable,
  word.the_send,
  label.the_send,
  literal.the_send,
  lock_action.the_send,
  lock_action.the_field_send,
  bin_op.the_send,
  bin_op.the_field_send,
  un_op.the_send,
  un_op.the_field_send,
)

pub block_send : IsSend block.the_row
block_send =
    knot.send-Block
    Vec-send
    (search leaves_send depth 40 fits 3000)
    (search leaves_send depth 40 fits 3000)
    (search leaves_send depth 40 fits 3000)
    (search leaves_send depth 40 fits 3000)
    (search leaves_send depth 40 fits 3000)
    (search leaves_send depth 40 fits 3000)
    (search leaves_send depth 40 fits 3000)
    (search leaves_send depth 40 fits 3000)
    (search leaves_send depth 40 fits 3000)
    (search leaves_send depth 40 fits 3000)
    option.the_send
    (search leaves_send depth 40 fits 3000)
    (search leaves_send depth 40 fits 3000)
    (search leaves_send depth 40 fits 3000)

ruleset leaves_sync = (
  expr.crosses,
  crosses,
  sendable,
  word.the_sync,
  label.the_sync,
  literal.the_sync,
  lock_action.the_sync,
  lock_action.the_field_sync,
  bin_op.the_sync,
  bin_op.the_field_sync,
  un_op.the_sync,
  un_op.the_field_sync,
)

pub block_sync : IsSync block.the_row
block_sync =
    knot.sync-Block
    Vec-sync
    (search leaves_sync depth 40 fits 3000)
    (search leaves_sync depth 40 fits 3000)
    (search leaves_sync depth 40 fits 3000)
    (search leaves_sync depth 40 fits 3000)
    (search leaves_sync depth 40 fits 3000)
    (search leaves_sync depth 40 fits 3000)
    (search leaves_sync depth 40 fits 3000)
    (search leaves_sync depth 40 fits 3000)
    (search leaves_sync depth 40 fits 3000)
    (search leaves_sync depth 40 fits 3000)
    option.the_sync
    (search leaves_sync depth 40 fits 3000)
    (search leaves_sync depth 40 fits 3000)
    (search leaves_sync depth 40 fits 3000)

pub program_send : IsSend program.the_row
program_send =
    search (block_send, crosses, sendable, word.the_send, prototype.the_send, parameters.the_send, return_type.the_send, global.the_send)
    depth 60 fits 3000

pub program_sync : IsSync program.the_row
program_sync =
    search (block_sync, crosses, sendable, word.the_sync, prototype.the_sync, parameters.the_sync, return_type.the_sync, global.the_sync)
    depth 60 fits 3000
