use Rattle.std.proofs.Common.{refl}
use Rattle.cilk_run.proofs.Going.{follows-first, followed-drawn, followed-stops}
use Rattle.cilk_run.proofs.playing.play_from.Goals as goal

pub returns-clause-drawn : goal.returns-clause-drawn
returns-clause-drawn c =
    let p = c.args.locked.machine.program in
    followed-drawn p c.args.workers c.args.seed c.args.limit c.args.locked c.new.result c.play_to_end.result
    (follows-first p c.args.workers c.args.seed c.args.limit c.args.locked c.new.result refl c.requires.crew c.requires.none c.requires.opens c.new.ensures)
    c.play_to_end.ensures.whole

pub returns-clause-stops : goal.returns-clause-stops
returns-clause-stops c =
    let p = c.args.locked.machine.program in
    followed-stops p c.args.workers c.args.seed c.args.limit c.args.locked c.new.result c.play_to_end.result
    (follows-first p c.args.workers c.args.seed c.args.limit c.args.locked c.new.result refl c.requires.crew c.requires.none c.requires.opens c.new.ensures)
    c.play_to_end.ensures.stops
