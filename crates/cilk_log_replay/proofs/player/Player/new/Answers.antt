use Rattle.std.proofs.Common.{◌%◌, ◌∙◌, length, map, ap, sym, subst}
use Rattle.std.proofs.lemmas.List.{length-map}
use Rattle.cilk_machine.specs.sched.Words.{choice_of}
use Rattle.cilk_log_replay.specs.Tape.{tape_of}
use Rattle.cilk_log_replay.specs.Tracks.{IsTrack}
use Rattle.cilk_log_replay.proofs.player.Player.new.Goals as goal

pub invariant_of-result : goal.invariant_of-result
invariant_of-result c =
    let choices = c.args.log.choices in
    let track = c.in-Ok.track in
    let t = tape_of c.args.program c.args.log.workers choices in
    record {
      goes = c.in-Ok-machines.ensures.goes (map choice_of choices);
      full = ap length c.in-Ok-machines.ensures.none ∙ sym (ap (λ k. k % 1000) c.in-Ok-machines.ensures.start);
      spare = c.in-Ok-machines.ensures.spare (map choice_of choices);
      track = subst (λ n. IsTrack t n track.last track.checkpoints.items track.actions.items) (sym (length-map choices choice_of)) c.in-Ok.ensures.track;
    }
