use Rattle.std.proofs.Common.{◌∙◌, ap, sym}
use Rattle.cilk_log_replay.specs.Tape.{tape_of}
use Rattle.cilk_log_replay.proofs.Ways.{full-seen, full-way}
use Rattle.cilk_log_replay.proofs.player.Player.stand_at.Goals as goal

pub returns-in-Ok-clause-there : goal.returns-in-Ok-clause-there
returns-in-Ok-clause-there c =
    let p = c.self.inside in
    let old = c.args.self.now in
    let full = full-seen (tape_of p.program p.log.workers p.log.choices) p.machine old c.self.view_is c.self.invariant.full in
    c.in-Ok.ensures.there ∙ ap (λ n. record old { place = c.args.k; kept = n }) (sym (full-way old.kept old.place c.args.k full))
