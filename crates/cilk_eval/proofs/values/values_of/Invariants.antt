use Rattle.std.proofs.Common.{◌≡◌, drop}
use Rattle.cilk_eval.specs.labelled.Value.{values_of}
use Rattle.cilk_eval.specs.nodes.Areas.{cells_of, environment}
use Rattle.cilk_eval.proofs.effects_laws.Several.{after}
use Rattle.cilk_eval.proofs.values.values_of.Given as goal

abbrev pub invariant-loop-code : goal.invariant-loop-code
invariant-loop-code l =
    values_of (environment (cells_of l.slots)) l.codes
    ≡ after l.values.items (values_of (environment (cells_of l.slots)) (drop l.code-index l.codes))
