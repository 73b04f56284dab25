use Rattle.std.proofs.Common.{subst}
use Rattle.std.specs.Io.KnownBytes.{Appends}
use Rattle.cilk_load.specs.Front.{AppendsFront}
use Rattle.cilk_view.proofs.Portions.{none_left, next_taken, portion_begun}
use Rattle.cilk_view.proofs.sending.send_told.Goals as goal

pub returns-in-Err-clause-front : goal.returns-in-Err-clause-front
returns-in-Err-clause-front g c =
    let mid = g.W.Write.contents c.loop-writer.writer in
    let new = g.W.Write.contents c.write_once.new.writer in
    portion_begun (g.W.Write.contents c.args.writer.now) mid new c.args.telling.now c.loop-writer.portion c.loop-writer.telling c.loop-writer.invariant.0
    (subst (AppendsFront mid new) c.as_slice-in-loop-writer-2.ensures.bytes c.in-Err.ensures.front)

pub loop-writer-preserved : goal.loop-writer-preserved
loop-writer-preserved g c =
    let mid = g.W.Write.contents c.loop-writer.writer in
    let new = g.W.Write.contents c.write_once.new.writer in
    let next = c.put_next-in-Ok.new.portion in
    let behind = c.put_next-in-Ok.new.self in (
      next_taken (g.W.Write.contents c.args.writer.now) mid new c.args.telling.now c.loop-writer.portion c.loop-writer.telling next behind
          c.loop-writer.invariant.0 (subst (Appends mid new) c.as_slice-in-loop-writer-2.ensures.bytes c.in-Ok.ensures.ok)
          c.put_next-in-Ok.ensures.told,
      none_left c.loop-writer.telling next behind c.put_next-in-Ok.ensures.told c.put_next-in-Ok.ensures.end,
    )
