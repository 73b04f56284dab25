use Rattle.std.proofs.Common.{◌∙◌, sym, length}
use Rattle.cilk_log_replay.specs.Tracks.{meets}
use Rattle.cilk_log_replay.proofs.Ranges.{passes}
use Rattle.cilk_log_replay.proofs.finding.next_met.Goals as goal

pub loop-made-preserved : goal.loop-made-preserved
loop-made-preserved c =
    c.loop-made.invariant
    ∙ passes (meets c.args.actions.now c.args.marks.now) c.loop-made.made (length c.args.actions.now) (sym c.is_set.ensures ∙ c.if-is_set.false)
    c.loop-made-test.true
