use Rattle.std.proofs.Common.{ap, arith}
use Rattle.cilk_log_replay.specs.Playing.{Playing}
use Rattle.cilk_log_replay.proofs.Ways.{same-home}
use Rattle.cilk_log_replay.proofs.player.Player.go_one.Goals as goal

pub go_along-requires-clause-kept : goal.go_along-requires-clause-kept
go_along-requires-clause-kept c =
    let at = ap (λ (q : Playing). q.place) c.self.view_is in
    let full = c.self.invariant.full in
    let same = same-home c.args.self.now.place c.args.k c.requires.home in
    omega (arith, at, full, same)
