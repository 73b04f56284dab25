use Rattle.std.proofs.Common.{length, refl}
use Rattle.cilk_log_replay.specs.Tape.{Tape}
use Rattle.cilk_races.specs.Found.{HoldsRun}
use Rattle.cilk_races.proofs.Meetings.{met-more}
use Rattle.cilk_races.proofs.reversing.meetings_of.Goals as goal

pub loop-entry-preserved : goal.loop-entry-preserved
loop-entry-preserved c =
    let races = c.args.races.now in
    met-more races.rows races.touches.items (length races.touches.items) (λ (t : Tape). HoldsRun t races) c.as_slice-entry-items.result.now
    races.entries.items c.loop-entry.entry-index c.loop-entry.meetings.items c.push.new.self.items _ _ c.as_slice-entry-items.ensures.value
    c.loop-entry-test.true c.requires c.in_ok-push.ensures.items refl c.in_ok-reversal.ensures c.loop-entry.invariant
