use Rattle.std.proofs.Common.{◌≡◌, map}
use Rattle.cilk_machine.specs.sched.Words.{choice_of}
use Rattle.cilk_log_replay.specs.Tape.{Tape}
use Rattle.cilk_log_replay.specs.Tracks.{IsTrack}
use Rattle.cilk_log_replay.proofs.track.follow_all.Given as goal

abbrev pub invariant-loop-made : goal.invariant-loop-made
invariant-loop-made l =
    (l.track.last.choices ≡ l.made)
    × ((t : Tape) → t.choices ≡ map choice_of l.choices
    → IsTrack t 0 l.initial.track.last l.initial.track.checkpoints.items l.initial.track.actions.items
    → IsTrack t l.made l.track.last l.track.checkpoints.items l.track.actions.items)
