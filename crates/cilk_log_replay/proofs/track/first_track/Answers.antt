use Rattle.std.proofs.Common.{◌∙◌}
use Rattle.cilk_log_replay.proofs.Tracks.{track-first}
use Rattle.cilk_log_replay.proofs.track.first_track.Goals as goal

pub returns-in-Ok-keep-clause-track : goal.returns-in-Ok-keep-clause-track
returns-in-Ok-keep-clause-track c = λ choices.
    track-first (record { program = c.args.program; workers = c.args.workers; choices = choices }) c.in-Ok.last c.new.result.items
    c.keep.new.checkpoints.items c.reserve.new.self.items (c.in-Ok.ensures.stands choices) c.new.ensures.items c.in-Ok-keep.ensures.one
    (c.reserve.ensures.items ∙ c.new-in-Ok.ensures.items)
