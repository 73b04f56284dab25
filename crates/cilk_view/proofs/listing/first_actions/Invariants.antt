use Rattle.std.proofs.Common.{◌+◌, ◌-◌, drop}
use Rattle.cilk_load.specs.labelled.Lines.{action_lines}
use Rattle.cilk_view.specs.Listing.{HasFirsts}
use Rattle.cilk_view.proofs.listing.first_actions.Given as goal

abbrev pub invariant-loop-passed : goal.invariant-loop-passed
invariant-loop-passed l = HasFirsts l.firsts (l.count - l.passed + 1) (drop (l.count - l.passed) (action_lines l.fn.loaded))
