use Rattle.cilk_debug_console.specs.Words.{asked_of}
use Rattle.cilk_debug.specs.Replies.{reply_text}
use Rattle.cilk_debug.proofs.Sending.{answered}
use Rattle.cilk_debug.proofs.debugger.Debugger.answer.Goals as goal

pub returns : goal.returns
returns g c =
    answered c.args.self.now.shown c.obey.new.self.shown (asked_of c.args.command) (reply_text c.in-Ok.reply) (g.W.Write.contents c.args.writer.now)
    (g.W.Write.contents c.send_to.new.writer) c.send_to.result c.in-Ok.ensures.0 c.in-Ok.ensures.1 c.send_to.ensures
