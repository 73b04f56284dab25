use Rattle.std.proofs.lemmas.Result.{err_from_is_err_and}
use Rattle.cilk_debug_console.proofs.Known.{fails_part}
use Rattle.cilk_debug_console.proofs.taking.take_line.Goals as goal

pub returns-in_err-take_part-clause-fails : goal.returns-in_err-take_part-clause-fails
returns-in_err-take_part-clause-fails g c =
    let p = err_from_is_err_and c.from_residual.result c.from_residual.ensures.1 in
    rw (p.1, p.2)
    (fails_part _ (g.R.Read.remaining c.loop-chunk.reader) c.loop-chunk.chunk c.loop-chunk.line.items _ c.loop-chunk.invariant.plain
    c.loop-chunk.invariant.taken c.in_err-take_part.ensures.err)
