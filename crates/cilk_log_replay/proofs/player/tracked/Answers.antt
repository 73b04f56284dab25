use Rattle.std.proofs.Common.{length, map, ap, sym, subst}
use Rattle.cilk_machine.specs.syntax.Tree.{Program}
use Rattle.cilk_machine.specs.sched.Words.{choice_of}
use Rattle.cilk_log_replay.specs.ReplayFaults.{IsFaultOf}
use Rattle.cilk_log_replay.specs.Tape.{tape_of}
use Rattle.cilk_log_replay.specs.Tracks.{IsTrack}
use Rattle.cilk_log_replay.proofs.player.tracked.Goals as goal

pub returns-in-Err-first_track-clause-told : goal.returns-in-Err-first_track-clause-told
returns-in-Err-first_track-clause-told c =
    let choices = c.args.log.now.choices in
    subst (λ (p : Program). IsFaultOf (tape_of p c.args.log.now.workers choices) c.in-Err-first_track.fault) c.in-Ok.ensures
    (c.in-Err-first_track.ensures.told (map choice_of choices))

pub returns-in-Err-follow_all-clause-told : goal.returns-in-Err-follow_all-clause-told
returns-in-Err-follow_all-clause-told c =
    let choices = c.args.log.now.choices in
    let track = c.in-Ok-first_track.track in
    let t = tape_of c.args.program.now c.args.log.now.workers choices in
    c.in-Err-follow_all.ensures.told t (ap (map choice_of) (sym c.as_slice.ensures))
    (subst (λ (p : Program). IsTrack (tape_of p c.args.log.now.workers choices) 0 track.last track.checkpoints.items track.actions.items) c.in-Ok.ensures
    (c.in-Ok-first_track.ensures.track (map choice_of choices)))

pub returns-in-Ok-follow_all-clause-track : goal.returns-in-Ok-follow_all-clause-track
returns-in-Ok-follow_all-clause-track c =
    let choices = c.args.log.now.choices in
    let track = c.in-Ok-first_track.track in
    let made = c.follow_all.new.track in
    let t = tape_of c.args.program.now c.args.log.now.workers choices in
    subst (λ n. IsTrack t n made.last made.checkpoints.items made.actions.items) (ap length c.as_slice.ensures)
    (c.in-Ok-follow_all.ensures.all t (ap (map choice_of) (sym c.as_slice.ensures))
    (subst (λ (p : Program). IsTrack (tape_of p c.args.log.now.workers choices) 0 track.last track.checkpoints.items track.actions.items) c.in-Ok.ensures
    (c.in-Ok-first_track.ensures.track (map choice_of choices))))
