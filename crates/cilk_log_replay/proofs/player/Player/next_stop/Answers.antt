use Rattle.std.proofs.Common.{◌≤◌, ◌+◌, ◌-◌, ◌∙◌, ℕ, List, length, option_map, ap, arith}
use Rattle.std.specs.List.{find, range_with_len}
use Rattle.cilk_log_replay.specs.Breaks.{next_stop}
use Rattle.cilk_log_replay.specs.Playing.{Playing}
use Rattle.cilk_log_replay.specs.Tape.{tape_of}
use Rattle.cilk_log_replay.specs.Tracks.{meets}
use Rattle.cilk_log_replay.proofs.Found.{next-met}
use Rattle.cilk_log_replay.proofs.player.Player.next_stop.Goals as goal

pub returns-clause-stop : goal.returns-clause-stop
returns-clause-stop c =
    let p = c.self.inside in
    let t = tape_of p.program p.log.workers p.log.choices in
    let marks = c.args.marks.now in
    let from = c.args.from in
    let same = ap (λ (q : Playing). length q.tape.choices) c.self.view_is in
    let asked = c.requires in
    let within : from ≤ length t.choices = omega (arith, same, asked) in
    c.next_met.ensures.met
    ∙ ap (λ (xs : List ℕ). option_map (λ (k : ℕ). k + 1) (find (meets xs marks) (range_with_len from (length xs - from)))) c.as_slice.ensures.value
    ∙ next-met t marks p.track.actions.items c.self.invariant.track.count c.self.invariant.track.acted from within
    ∙ ap (λ (q : Playing). next_stop q.tape marks from) c.self.view_is
