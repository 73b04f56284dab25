use Rattle.std.proofs.Common.{sym, ◌∙◌}
use Rattle.cilk_frame.specs.nodes.Areas.{cells_of}
use Rattle.cilk_eval.proofs.KnownLaws.{behind_nothing}
use Rattle.cilk_eval.proofs.listed.behind_listed.Goals as goal

pub returns-in_default : goal.returns-in_default
returns-in_default c =
    sym (behind_nothing (cells_of c.args.slots.now) c.args.variables.now c.loop-slot.slot-index c.loop-slot.others.now c.loop-slot-test.true
    c.in_default.ensures.cases) ∙ c.loop-slot.invariant
